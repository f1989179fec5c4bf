use Rattle.std.proofs.Common.{◌-◌}
use Rattle.dense_q.specs.Tables.{height, entry}
use Rattle.bit_table.specs.Bits.{bit_in}
use Rattle.row_transform.specs.Entries.{HasTableSize}
use Rattle.row_transform.proofs.EntryLaws.{IsRowListedTo}
use Rattle.row_transform.proofs.entries.Entries.list_row.Given as goal

abbrev pub invariant-loop-col : goal.invariant-loop-col
invariant-loop-col g l = record {
  size : HasTableSize l.fn.self.bits l.self.bits;
  so_far : IsRowListedTo (height l.q) (entry l.q) (bit_in l.fn.self.bits) (bit_in l.self.bits) l.row l.from;
}

abbrev pub decreases-loop-col : goal.decreases-loop-col
decreases-loop-col g l = l.q.width - l.from
