use Rattle.std.proofs.Common.{◌≡◌, ◌+◌, [], ◌∷◌, ◌++◌, subst, sym, ap, ◌∙◌, arith}
use Rattle.linear_algebra.specs.Products.{identity}
use Rattle.cert_text.specs.Contents.{numbered, numbered_rows}
use Rattle.cert_text.specs.Printing.{PrintsMatrix, PrintsRow}
use Rattle.cert_checker.proofs.PrintedRows.{rows-push}
use Rattle.cert_checker.proofs.UnitRows.{unit-entry}
use Rattle.cert_checker.proofs.matrices.unit_rows.Goals as goal

pub loop-row-preserved : goal.loop-row-preserved
loop-row-preserved g c =
    let p = g.F.Field.modulus in
    let number = g.F.Field.number in
    let n = c.args.n in
    let row = c.loop-row.row in
    let entries : c.from_vec.result ≡ (row, c.one.result) ∷ [] =
    c.from_vec.ensures ∙ c.in_ok-push.ensures.items ∙ ap (λ es. es ++ (row, c.one.result) ∷ []) c.new-entries.ensures.items in
    subst (λ list. PrintsMatrix p (row + 1) n identity (numbered_rows number list)) (sym c.in_ok-push-2.ensures.items)
    (rows-push number p row n identity c.loop-row.rows.items c.from_vec.result c.loop-row.invariant
    (subst (λ es. PrintsRow p n (identity row) (numbered number es)) (sym entries)
    (unit-entry number p n row c.one.result (omega
    (arith, g.met.F.Field.odd)) c.loop-row-test.true c.one.ensures)))

pub returns : goal.returns
returns g c =
    let p = g.F.Field.modulus in
    let n = c.args.n in
    let end : c.loop-row.row ≡ n = omega (arith, c.loop-row-test.false, c.loop-row.auto.row-end) in
    subst (λ rows. PrintsMatrix p n n identity (numbered_rows g.F.Field.number rows)) (sym c.from_vec-2.ensures)
    (subst (λ m. PrintsMatrix p m n identity (numbered_rows g.F.Field.number c.loop-row.rows.items)) end c.loop-row.invariant)
