use Rattle.std.proofs.Common.{◌+◌, subst, sym}
use Rattle.row_transform.specs.Tableaus.{matrix_which, width_of}
use Rattle.cert_text.specs.Contents.{numbered_rows}
use Rattle.cert_checker.proofs.PrintedRows.{rows-push}
use Rattle.ccf_builder.proofs.matrices.rows_of.Goals as goal
use Rattle.cert_text.specs.Printing.{PrintsMatrix}

pub loop-row-preserved : goal.loop-row-preserved
loop-row-preserved g c =
    let p = g.F.Field.modulus in
    let number = g.F.Field.number in
    let S = g.T.Tableau.state c.args.tableau.now in
    let n = width_of c.args.which S in
    let matrix = matrix_which c.args.which S in
    let row = c.loop-row.row in
    subst (λ list. PrintsMatrix p (row + 1) n matrix (numbered_rows number list)) (sym c.in_ok-push.ensures.items)
    (rows-push number p row n matrix c.loop-row.rows.items c.in_ok-entries_of.field-0 c.loop-row.invariant
    c.in_ok-entries_of.ensures)
