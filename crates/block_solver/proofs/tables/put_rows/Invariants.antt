use Rattle.cert_text.specs.Contents.{numbered_rows}
use Rattle.block_solver.specs.Tables.{HasPartRows}
use Rattle.block_solver.proofs.tables.put_rows.Given as goal

abbrev pub invariant-loop-member : goal.invariant-loop-member
invariant-loop-member g l = HasPartRows l.fn.table l.table l.member-index (numbered_rows g.F.Field.number l.rows) l.members l.columns
