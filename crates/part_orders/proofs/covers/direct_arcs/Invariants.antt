use Rattle.std.proofs.Common.{◌≡◌, slice_index}
use Rattle.bit_table.specs.Bits.{bit_in}
use Rattle.part_orders.proofs.CoverLaws.{ArcsArePut}
use Rattle.part_orders.proofs.covers.direct_arcs.Given as goal

abbrev pub invariant-loop-i : goal.invariant-loop-i
invariant-loop-i l = record {
  rows : l.table.rows ≡ l.blocks;
  size : l.table.size ≡ l.blocks;
  put : ArcsArePut l.arcs (slice_index l.parts) l.blocks (bit_in l.table) l.i;
}
