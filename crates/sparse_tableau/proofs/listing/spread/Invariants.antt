use Rattle.std.proofs.Common.{◌-◌}
use Rattle.bit_table.specs.Bits.{bit_in}
use Rattle.sparse_q.specs.Tables.{sparse_rows, number_in}
use Rattle.row_transform.specs.Entries.{HasTableSize}
use Rattle.row_transform.proofs.EntryLaws.{IsSpreadTo}
use Rattle.sparse_tableau.proofs.listing.spread.Given as goal

abbrev pub invariant-loop-other : goal.invariant-loop-other
invariant-loop-other g l = record {
  size : HasTableSize l.fn.entries.bits l.entries.bits;
  spread : IsSpreadTo (sparse_rows l.p) (number_in l.p) (bit_in l.fn.entries.bits) (bit_in l.entries.bits) l.row l.col
      l.from;
}

abbrev pub decreases-loop-other : goal.decreases-loop-other
decreases-loop-other g l = l.p.width - l.from
