use Rattle.std.proofs.Common.{◌-◌}
use Rattle.bit_table.specs.Bits.{bit_in}
use Rattle.sparse_q.specs.Tables.{sparse_rows, number_in}
use Rattle.row_transform.specs.Entries.{HasTableSize}
use Rattle.row_transform.proofs.EntryLaws.{IsRowListedTo}
use Rattle.sparse_tableau.proofs.listing.list_row.Given as goal

abbrev pub invariant-loop-col : goal.invariant-loop-col
invariant-loop-col g l = record {
  size : HasTableSize l.fn.entries.bits l.entries.bits;
  so_far : IsRowListedTo (sparse_rows l.m) (number_in l.m) (bit_in l.fn.entries.bits) (bit_in l.entries.bits) l.row
      l.from;
}

abbrev pub decreases-loop-col : goal.decreases-loop-col
decreases-loop-col g l = l.m.width - l.from
