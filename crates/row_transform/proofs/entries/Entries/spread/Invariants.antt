use Rattle.sparse_q.specs.Tables.{sparse_rows}
use Rattle.row_table.specs.RowTables.{p_part}
use Rattle.bit_table.specs.Bits.{bit_in}
use Rattle.row_transform.specs.Entries.{HasTableSize}
use Rattle.row_transform.proofs.EntryLaws.{IsSpreadTo}
use Rattle.row_transform.proofs.entries.Entries.spread.Given as goal

abbrev pub invariant-loop-other : goal.invariant-loop-other
invariant-loop-other g l = record {
  size : HasTableSize l.fn.self.bits l.self.bits;
  spread : IsSpreadTo (sparse_rows l.table.q) (p_part g.F.Field.modulus l.table) (bit_in l.fn.self.bits)
      (bit_in l.self.bits) l.row l.col l.other;
}
