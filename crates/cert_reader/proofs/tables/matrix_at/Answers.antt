use Rattle.std.proofs.Common.{[], ◌≡◌, ◌+◌, ◌-◌, ◌++◌, ◌∷◌, sym, ap, subst, ◌∙◌}
use Rattle.std.proofs.lemmas.Result.{err_from_is_err_and}
use Rattle.cert_text.specs.Contents.{numbered, numbered_rows}
use Rattle.cert_reader.specs.LineReading.{entries_line_at}
use Rattle.cert_reader.specs.CertReading.{rows_at}
use Rattle.cert_reader.proofs.Looping.{with_front, rows_begin, rows_further, rows_break, rows_done, rows_numbered-more}
use Rattle.cert_reader.proofs.tables.matrix_at.Goals as goal

pub loop-row-init : goal.loop-row-init
loop-row-init g c =
    let row = entries_line_at g.F.Field.modulus c.args.word.now c.args.n in
    let all = rows_at row c.args.count 1 c.args.line c.args.bytes.now in
    subst (λ items. with_front (numbered_rows g.F.Field.number items) (rows_at row (c.args.count - 0) (0 + 1)
    (c.args.line + 0) c.args.bytes.now) ≡ all) (sym c.new-rows.ensures.items)
    (rows_begin row c.args.count c.args.line c.args.bytes.now)

pub returns-in_err-entries : goal.returns-in_err-entries
returns-in_err-entries g c =
    let row = entries_line_at g.F.Field.modulus c.args.word.now c.args.n in
    let all = rows_at row c.args.count 1 c.args.line c.args.bytes.now in
    let same = err_from_is_err_and c.from_residual.result c.from_residual.ensures.1 in
    rw (same.1, same.2)
    (rows_break row c.args.count c.loop-row.row c.args.line
    (numbered_rows g.F.Field.number c.loop-row.rows.items) c.loop-row.rest.now all c.in_err-entries.field-0.0
    c.loop-row-test.true c.in_err-entries.ensures c.loop-row.invariant)

pub loop-row-preserved : goal.loop-row-preserved
loop-row-preserved g c =
    let number = g.F.Field.number in
    let row = entries_line_at g.F.Field.modulus c.args.word.now c.args.n in
    let all = rows_at row c.args.count 1 c.args.line c.args.bytes.now in
    let i = c.loop-row.row in
    let rows = c.loop-row.rows.items in
    let entries = c.in_ok-entries.entries.items in
    let after = c.in_ok-entries.after.now in
    subst (λ front. with_front front (rows_at row (c.args.count - (i + 1)) (i + 1 + 1) (c.args.line + (i + 1)) after) ≡ all)
    (sym (ap (numbered_rows number) (c.in_ok-push.ensures.items ∙ ap (λ x. rows ++ x ∷ []) c.from_vec.ensures) ∙ rows_numbered-more number rows entries))
    (rows_further row c.args.count i c.args.line (numbered_rows number rows) c.loop-row.rest.now
    (numbered number entries) after all c.loop-row-test.true c.in_ok-entries.ensures c.loop-row.invariant)

pub returns : goal.returns
returns g c =
    let row = entries_line_at g.F.Field.modulus c.args.word.now c.args.n in
    rows_done row c.args.count c.loop-row.row c.args.line
    (numbered_rows g.F.Field.number c.loop-row.rows.items) c.loop-row.rest.now
    (rows_at row c.args.count 1 c.args.line c.args.bytes.now) c.loop-row-test.false c.loop-row.invariant
