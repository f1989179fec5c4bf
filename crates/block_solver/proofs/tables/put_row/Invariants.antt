use Rattle.cert_text.specs.Contents.{numbered}
use Rattle.block_solver.proofs.RowPlaces.{IsRowBegun}
use Rattle.block_solver.proofs.tables.put_row.Given as goal

abbrev pub invariant-loop-entry : goal.invariant-loop-entry
invariant-loop-entry g l = IsRowBegun l.fn.table l.table (numbered g.F.Field.number l.entries) l.columns l.entry-index
