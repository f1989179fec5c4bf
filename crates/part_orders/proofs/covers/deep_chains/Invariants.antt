use Rattle.std.proofs.Common.{◌≡◌}
use Rattle.bit_table.specs.Bits.{bit_in}
use Rattle.part_orders.proofs.CoverLaws.{DeepAreJoined}
use Rattle.part_orders.proofs.covers.deep_chains.Given as goal

abbrev pub invariant-loop-i : goal.invariant-loop-i
invariant-loop-i l = record {
  rows : l.table.rows ≡ l.blocks;
  size : l.table.size ≡ l.blocks;
  joined : DeepAreJoined l.lower l.blocks (bit_in l.below) (bit_in l.table) l.i;
}
