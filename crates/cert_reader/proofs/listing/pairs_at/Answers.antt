use Rattle.std.proofs.Common.{ℕ, ◌≡◌, ◌+◌, ◌<◌, true, length, sym, subst, ◌∙◌}
use Rattle.std.proofs.lemmas.Result.{err_from_is_err_and}
use Rattle.cert_reader.specs.Items.{goes_on, pair_at, pairs_at}
use Rattle.cert_reader.proofs.Looping.{SoFar, goes_further, breaks, is_done, pair_short, going_some}
use Rattle.cert_reader.proofs.listing.pairs_at.Goals as goal

pub returns-in_err-pair : goal.returns-in_err-pair
returns-in_err-pair c =
    let p = err_from_is_err_and c.from_residual.result c.from_residual.ensures.1 in
    let going : goes_on c.loop-rest.rest.now ≡ true = sym c.goes_on.ensures ∙ c.loop-rest-test.true in
    rw (p.1, p.2) (breaks goes_on (λ (p : ℕ × ℕ). p.0 + 1)
    (pair_at c.args.m c.args.n) c.args.line c.loop-rest.low c.loop-rest.pairs.items c.loop-rest.rest.now
    (pairs_at c.args.m c.args.n c.args.line c.args.bytes.now) c.in_err-pair.field-0.0
    (going_some c.loop-rest.rest.now going) going c.in_err-pair.ensures.pair c.loop-rest.invariant)

pub loop-rest-smaller : goal.loop-rest-smaller
loop-rest-smaller c = pair_short c.args.m c.args.n c.loop-rest.low c.args.line c.loop-rest.rest.now
    (c.in_ok-pair.pair, c.in_ok-pair.after.now) c.in_ok-pair.ensures.pair

pub loop-rest-preserved : goal.loop-rest-preserved
loop-rest-preserved c =
    let going : goes_on c.loop-rest.rest.now ≡ true = sym c.goes_on.ensures ∙ c.loop-rest-test.true in
    let shorter : length c.in_ok-pair.after.now < length c.loop-rest.rest.now =
    pair_short c.args.m c.args.n c.loop-rest.low c.args.line c.loop-rest.rest.now
    (c.in_ok-pair.pair, c.in_ok-pair.after.now) c.in_ok-pair.ensures.pair in
    subst (λ items. SoFar goes_on (λ (p : ℕ × ℕ). p.0 + 1) (pair_at c.args.m c.args.n) c.args.line items
    (c.in_ok-pair.pair.0 + 1) c.in_ok-pair.after.now (pairs_at c.args.m c.args.n c.args.line c.args.bytes.now))
    (sym c.in_ok-push.ensures.items)
    (goes_further goes_on (λ (p : ℕ × ℕ). p.0 + 1)
    (pair_at c.args.m c.args.n) c.args.line c.loop-rest.low c.loop-rest.pairs.items c.loop-rest.rest.now
    c.in_ok-pair.pair c.in_ok-pair.after.now (pairs_at c.args.m c.args.n c.args.line c.args.bytes.now) going
    c.in_ok-pair.ensures.pair shorter c.loop-rest.invariant)

pub returns : goal.returns
returns c = is_done goes_on (λ (p : ℕ × ℕ). p.0 + 1)
    (pair_at c.args.m c.args.n) c.args.line c.loop-rest.low c.loop-rest.pairs.items c.loop-rest.rest.now
    (pairs_at c.args.m c.args.n c.args.line c.args.bytes.now) (sym c.goes_on.ensures
    ∙ c.loop-rest-test.false) c.loop-rest.invariant
