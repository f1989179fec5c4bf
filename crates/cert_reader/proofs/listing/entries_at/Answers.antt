use Rattle.std.proofs.Common.{ℕ, ◌≡◌, ◌+◌, ◌<◌, true, length, sym, ap, subst, ◌∙◌}
use Rattle.std.proofs.lemmas.Result.{err_from_is_err_and}
use Rattle.cert_text.specs.Contents.{numbered}
use Rattle.cert_reader.specs.Items.{goes_on, entry_at, entries_at}
use Rattle.cert_reader.proofs.Looping.{SoFar, goes_further, breaks, is_done, entry_short, going_some, numbered-more}
use Rattle.cert_reader.proofs.listing.entries_at.Goals as goal

pub returns-in_err-entry : goal.returns-in_err-entry
returns-in_err-entry g c =
    let p = g.F.Field.modulus in
    let left = c.loop-rest.rest.now in
    let front = numbered g.F.Field.number c.loop-rest.entries.items in
    let all = entries_at p c.args.n c.args.line c.args.bytes.now in
    let same = err_from_is_err_and c.from_residual.result c.from_residual.ensures.1 in
    let going : goes_on left ≡ true = sym c.goes_on.ensures ∙ c.loop-rest-test.true in
    rw (same.1, same.2)
    (breaks goes_on (λ (p : ℕ × ℕ). p.0 + 1) (entry_at p c.args.n) c.args.line c.loop-rest.low front left all
    c.in_err-entry.field-0.0 (going_some left going) going c.in_err-entry.ensures.entry c.loop-rest.invariant)

pub loop-rest-smaller : goal.loop-rest-smaller
loop-rest-smaller g c =
    let number = g.F.Field.number in
    let entry = c.in_ok-entry.entry in
    entry_short g.F.Field.modulus c.args.n c.loop-rest.low c.args.line c.loop-rest.rest.now
    ((entry.0, number entry.1), c.in_ok-entry.after.now) c.in_ok-entry.ensures.entry

pub loop-rest-preserved : goal.loop-rest-preserved
loop-rest-preserved g c =
    let p = g.F.Field.modulus in
    let number = g.F.Field.number in
    let left = c.loop-rest.rest.now in
    let after = c.in_ok-entry.after.now in
    let entry = c.in_ok-entry.entry in
    let entries = c.loop-rest.entries.items in
    let all = entries_at p c.args.n c.args.line c.args.bytes.now in
    let going : goes_on left ≡ true = sym c.goes_on.ensures ∙ c.loop-rest-test.true in
    let shorter : length after < length left = entry_short p c.args.n c.loop-rest.low c.args.line left
    ((entry.0, number entry.1), after) c.in_ok-entry.ensures.entry in
    subst (λ front. SoFar goes_on (λ (p : ℕ × ℕ). p.0 + 1) (entry_at p c.args.n) c.args.line front
    (entry.0 + 1) after all) (sym (ap (numbered number) c.in_ok-push.ensures.items
    ∙ numbered-more number entries entry))
    (goes_further goes_on (λ (p : ℕ × ℕ). p.0 + 1) (entry_at p c.args.n) c.args.line c.loop-rest.low
    (numbered number entries) left (entry.0, number entry.1) after all going c.in_ok-entry.ensures.entry shorter c.loop-rest.invariant)

pub returns : goal.returns
returns g c =
    let p = g.F.Field.modulus in
    let front = numbered g.F.Field.number c.loop-rest.entries.items in
    is_done goes_on (λ (p : ℕ × ℕ). p.0 + 1) (entry_at p c.args.n) c.args.line c.loop-rest.low front
    c.loop-rest.rest.now (entries_at p c.args.n c.args.line c.args.bytes.now)
    (sym c.goes_on.ensures ∙ c.loop-rest-test.false) c.loop-rest.invariant
