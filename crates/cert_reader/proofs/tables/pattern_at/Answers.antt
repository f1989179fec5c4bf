use Rattle.std.proofs.Common.{[], ◌≡◌, ◌+◌, ◌-◌, ◌++◌, ◌∷◌, sym, ap, subst, ◌∙◌}
use Rattle.std.proofs.lemmas.Result.{err_from_is_err_and}
use Rattle.cert_reader.specs.LineReading.{columns_line_at}
use Rattle.cert_reader.specs.CertReading.{rows_at}
use Rattle.cert_reader.proofs.Looping.{with_front, rows_begin, rows_further, rows_break, rows_done}
use Rattle.cert_reader.proofs.tables.pattern_at.Goals as goal

pub loop-row-init : goal.loop-row-init
loop-row-init c = subst (λ items. with_front items (rows_at (columns_line_at c.args.word.now c.args.n)
    (c.args.count - 0) (0 + 1) (c.args.line + 0) c.args.bytes.now) ≡ rows_at
    (columns_line_at c.args.word.now c.args.n) c.args.count 1 c.args.line c.args.bytes.now)
    (sym c.new-rows.ensures.items) (rows_begin (columns_line_at c.args.word.now c.args.n) c.args.count c.args.line c.args.bytes.now)

pub returns-in_err-columns : goal.returns-in_err-columns
returns-in_err-columns c =
    let p = err_from_is_err_and c.from_residual.result c.from_residual.ensures.1 in
    rw (p.1, p.2) (rows_break (columns_line_at c.args.word.now c.args.n) c.args.count c.loop-row.row c.args.line
    c.loop-row.rows.items c.loop-row.rest.now
    (rows_at (columns_line_at c.args.word.now c.args.n) c.args.count 1 c.args.line c.args.bytes.now)
    c.in_err-columns.field-0.0 c.loop-row-test.true c.in_err-columns.ensures c.loop-row.invariant)

pub loop-row-preserved : goal.loop-row-preserved
loop-row-preserved c =
    subst (λ items. with_front items (rows_at (columns_line_at c.args.word.now c.args.n)
    (c.args.count - (c.loop-row.row + 1)) (c.loop-row.row + 1 + 1)
    (c.args.line + (c.loop-row.row + 1)) c.in_ok-columns.after.now) ≡ rows_at
    (columns_line_at c.args.word.now c.args.n) c.args.count 1 c.args.line c.args.bytes.now)
    (sym (c.in_ok-push.ensures.items ∙ ap (λ x. c.loop-row.rows.items ++ x ∷ []) c.from_vec.ensures))
    (rows_further (columns_line_at c.args.word.now c.args.n) c.args.count c.loop-row.row c.args.line
    c.loop-row.rows.items c.loop-row.rest.now c.in_ok-columns.columns.items c.in_ok-columns.after.now
    (rows_at (columns_line_at c.args.word.now c.args.n) c.args.count 1 c.args.line c.args.bytes.now)
    c.loop-row-test.true c.in_ok-columns.ensures c.loop-row.invariant)

pub returns : goal.returns
returns c = rows_done (columns_line_at c.args.word.now c.args.n) c.args.count c.loop-row.row c.args.line
    c.loop-row.rows.items c.loop-row.rest.now
    (rows_at (columns_line_at c.args.word.now c.args.n) c.args.count 1 c.args.line c.args.bytes.now)
    c.loop-row-test.false c.loop-row.invariant
