use Rattle.std.proofs.Common.{ℕ, ◌≡◌, ◌+◌, ◌<◌, true, length, sym, subst, ◌∙◌, arith}
use Rattle.std.specs.Prelude.{codes}
use Rattle.std.proofs.lemmas.Result.{err_from_is_err_and}
use Rattle.cert_reader.specs.Items.{goes_on, marked_at, numbers_at}
use Rattle.cert_reader.proofs.Looping.{SoFar, goes_further, breaks, is_done, marked_short, going_some}
use Rattle.cert_reader.proofs.listing.numbers_at.Goals as goal

pub returns-in_err-number : goal.returns-in_err-number
returns-in_err-number c =
    let p = err_from_is_err_and c.from_residual.result c.from_residual.ensures.1 in
    let going : goes_on c.loop-rest.rest.now ≡ true = sym c.goes_on.ensures ∙ c.loop-rest-test.true in
    rw (p.1, p.2) (breaks goes_on (λ (i : ℕ). i + 1)
    (marked_at (codes " ") c.args.n) c.args.line c.loop-rest.low c.loop-rest.numbers.items c.loop-rest.rest.now
    (numbers_at c.args.n c.args.line c.args.bytes.now) c.in_err-number.field-0.0
    (going_some c.loop-rest.rest.now going) going c.in_err-number.ensures.index c.loop-rest.invariant)

pub loop-rest-smaller : goal.loop-rest-smaller
loop-rest-smaller c = marked_short (codes " ") c.args.n c.loop-rest.low c.args.line c.loop-rest.rest.now
    (c.in_ok-number.number, c.in_ok-number.after.now) (omega arith) c.in_ok-number.ensures.index

pub loop-rest-preserved : goal.loop-rest-preserved
loop-rest-preserved c =
    let going : goes_on c.loop-rest.rest.now ≡ true = sym c.goes_on.ensures ∙ c.loop-rest-test.true in
    let shorter : length c.in_ok-number.after.now < length c.loop-rest.rest.now =
    marked_short (codes " ") c.args.n c.loop-rest.low c.args.line c.loop-rest.rest.now
    (c.in_ok-number.number, c.in_ok-number.after.now) (omega arith) c.in_ok-number.ensures.index in
    subst (λ items. SoFar goes_on (λ (i : ℕ). i + 1) (marked_at (codes " ") c.args.n) c.args.line items
    (c.in_ok-number.number + 1) c.in_ok-number.after.now (numbers_at c.args.n c.args.line c.args.bytes.now))
    (sym c.in_ok-push.ensures.items)
    (goes_further goes_on (λ (i : ℕ). i + 1) (marked_at
    (codes " ") c.args.n) c.args.line c.loop-rest.low c.loop-rest.numbers.items c.loop-rest.rest.now
    c.in_ok-number.number c.in_ok-number.after.now (numbers_at c.args.n c.args.line c.args.bytes.now) going
    c.in_ok-number.ensures.index shorter c.loop-rest.invariant)

pub returns : goal.returns
returns c = is_done goes_on (λ (i : ℕ). i + 1) (marked_at
    (codes " ") c.args.n) c.args.line c.loop-rest.low c.loop-rest.numbers.items c.loop-rest.rest.now
    (numbers_at c.args.n c.args.line c.args.bytes.now) (sym c.goes_on.ensures
    ∙ c.loop-rest-test.false) c.loop-rest.invariant
