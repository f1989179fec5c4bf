use Rattle.std.proofs.Common.{◌+◌, subst, sym}
use Rattle.dense_q.specs.Tables.{entry}
use Rattle.row_entries.specs.Rows.{items}
use Rattle.cert_text.specs.Contents.{numbered_rows}
use Rattle.cert_text.specs.Printing.{PrintsMatrix, PrintsRow}
use Rattle.cert_checker.proofs.PlacedItems.{placed-prints}
use Rattle.cert_checker.proofs.PrintedRows.{rows-push}
use Rattle.cert_checker.proofs.matrices.rows_of.Goals as goal

pub loop-row-preserved : goal.loop-row-preserved
loop-row-preserved g c =
    let p = g.F.Field.modulus in
    let number = g.F.Field.number in
    let m = c.args.matrix.now in
    let n = m.width in
    let matrix = entry m in
    let row = c.loop-row.row in
    subst (λ list. PrintsMatrix p (row + 1) n matrix (numbered_rows number list)) (sym c.in_ok-push.ensures.items)
    (rows-push number p row n matrix c.loop-row.rows.items c.in_ok-entries_of.field-0 c.loop-row.invariant
    (subst (PrintsRow p n (matrix row)) (sym c.in_ok-entries_of.ensures)
    (placed-prints p n (items number c.row.result.now) (matrix row) c.row.ensures.row c.row.ensures.numbers)))
