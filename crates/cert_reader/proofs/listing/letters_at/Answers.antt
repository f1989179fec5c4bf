use Rattle.std.proofs.Common.{ℕ, ◌≡◌, ◌+◌, ◌<◌, true, length, sym, subst, ◌∙◌}
use Rattle.std.proofs.lemmas.Result.{err_from_is_err_and}
use Rattle.cert_reader.specs.Fronts.{begins_with}
use Rattle.cert_reader.specs.Items.{marked_at, letters_at}
use Rattle.cert_reader.proofs.Looping.{SoFar, goes_further, breaks, is_done, marked_short, beginning_some}
use Rattle.cert_reader.proofs.listing.letters_at.Goals as goal

pub returns-in_err-row : goal.returns-in_err-row
returns-in_err-row c =
    let p = err_from_is_err_and c.from_residual.result c.from_residual.ensures.1 in
    let going : begins_with c.args.mark.now c.loop-rest.rest.now ≡ true = sym c.begins.ensures ∙ c.loop-rest-test.true in
    rw (p.1, p.2) (breaks (λ bytes. begins_with c.args.mark.now bytes) (λ (i : ℕ). i + 1)
    (marked_at c.args.mark.now c.args.n) c.args.line c.loop-rest.low c.loop-rest.rows.items c.loop-rest.rest.now
    (letters_at c.args.mark.now c.args.n c.args.line c.args.bytes.now) c.in_err-row.field-0.0
    (beginning_some c.args.mark.now c.loop-rest.rest.now c.requires going) going c.in_err-row.ensures.index c.loop-rest.invariant)

pub loop-rest-smaller : goal.loop-rest-smaller
loop-rest-smaller c = marked_short c.args.mark.now c.args.n c.loop-rest.low c.args.line c.loop-rest.rest.now
    (c.in_ok-row.row, c.in_ok-row.after.now) c.requires c.in_ok-row.ensures.index

pub loop-rest-preserved : goal.loop-rest-preserved
loop-rest-preserved c =
    let going : begins_with c.args.mark.now c.loop-rest.rest.now ≡ true = sym c.begins.ensures ∙ c.loop-rest-test.true in
    let shorter : length c.in_ok-row.after.now < length c.loop-rest.rest.now =
    marked_short c.args.mark.now c.args.n c.loop-rest.low c.args.line c.loop-rest.rest.now
    (c.in_ok-row.row, c.in_ok-row.after.now) c.requires c.in_ok-row.ensures.index in
    subst (λ items. SoFar (λ bytes. begins_with c.args.mark.now bytes) (λ (i : ℕ). i + 1)
    (marked_at c.args.mark.now c.args.n) c.args.line items (c.in_ok-row.row + 1) c.in_ok-row.after.now
    (letters_at c.args.mark.now c.args.n c.args.line c.args.bytes.now)) (sym c.in_ok-push.ensures.items)
    (goes_further (λ bytes. begins_with c.args.mark.now bytes) (λ (i : ℕ). i + 1)
    (marked_at c.args.mark.now c.args.n) c.args.line c.loop-rest.low c.loop-rest.rows.items c.loop-rest.rest.now
    c.in_ok-row.row c.in_ok-row.after.now (letters_at c.args.mark.now c.args.n c.args.line c.args.bytes.now) going
    c.in_ok-row.ensures.index shorter c.loop-rest.invariant)

pub returns : goal.returns
returns c = is_done (λ bytes. begins_with c.args.mark.now bytes) (λ (i : ℕ). i + 1)
    (marked_at c.args.mark.now c.args.n) c.args.line c.loop-rest.low c.loop-rest.rows.items c.loop-rest.rest.now
    (letters_at c.args.mark.now c.args.n c.args.line c.args.bytes.now) (sym c.begins.ensures
    ∙ c.loop-rest-test.false) c.loop-rest.invariant
