use Rattle.std.proofs.Common.{◌≡◌}
use Rattle.bit_table.specs.Bits.{bit_in}
use Rattle.part_orders.proofs.ChainLaws.{AreJoined}
use Rattle.part_orders.proofs.chains.chains_of.Given as goal

abbrev pub invariant-loop-i : goal.invariant-loop-i
invariant-loop-i l = record {
  rows : l.table.rows ≡ l.blocks;
  size : l.table.size ≡ l.blocks;
  joined : AreJoined l.blocks l.lower (bit_in l.table) l.i;
}
