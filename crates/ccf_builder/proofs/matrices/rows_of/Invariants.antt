use Rattle.row_transform.specs.Tableaus.{matrix_which, width_of}
use Rattle.cert_text.specs.Contents.{numbered_rows}
use Rattle.ccf_builder.proofs.matrices.rows_of.Given as goal
use Rattle.cert_text.specs.Printing.{PrintsMatrix}

abbrev pub invariant-loop-row : goal.invariant-loop-row
invariant-loop-row g l =
    let S = g.T.Tableau.state l.tableau in
    PrintsMatrix g.F.Field.modulus l.row (width_of l.which S) (matrix_which l.which S)
    (numbered_rows g.F.Field.number l.rows.items)
