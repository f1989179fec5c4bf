use Rattle.dense_q.specs.Tables.{entry}
use Rattle.cert_text.specs.Contents.{numbered_rows}
use Rattle.cert_checker.proofs.matrices.rows_of.Given as goal
use Rattle.cert_text.specs.Printing.{PrintsMatrix}

abbrev pub invariant-loop-row : goal.invariant-loop-row
invariant-loop-row g l =
    let m = l.matrix in
    PrintsMatrix g.F.Field.modulus l.row (m.width) (entry m)
    (numbered_rows g.F.Field.number l.rows.items)
