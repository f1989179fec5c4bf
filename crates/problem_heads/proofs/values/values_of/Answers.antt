use Rattle.std.proofs.Common.{◌≡◌, ◌+◌, None, length, get_or, ap, sym, subst, arith}
use Rattle.std.proofs.lemmas.Result.{err_from_is_err_and}
use Rattle.mixed_model.specs.Models.{mixed_matrix_of}
use Rattle.symbol_places.specs.declared.places.SymbolPlace.{SymbolPlace}
use Rattle.symbol_places.proofs.PlaceNumbers.{place-listed}
use Rattle.problem_heads.specs.HeadNumbers.{number_for}
use Rattle.problem_heads.specs.Misfits.{IsMissing, LacksValue}
use Rattle.problem_heads.specs.Problems.{place_names}
use Rattle.problem_heads.proofs.AttachSteps.{missing-so}
use Rattle.problem_heads.proofs.ValueSteps.{AreFirstValues, values-all, values-next}
use Rattle.problem_heads.proofs.values.values_of.Goals as goal

pub returns-in_err-value-clause-missing : goal.returns-in_err-value-clause-missing
returns-in_err-value-clause-missing g c =
    let failed = err_from_is_err_and c.from_residual-in_err-value.result c.from_residual-in_err-value.ensures.1 in
    let numbers = c.args.lines.now.numbers in
    let model = c.args.model.now in
    let first : SymbolPlace = record { equation = 0; unknown = 0 } in
    let place = get_or c.deref-place-items.result.now c.loop-place.place-index first in
    let listed = place-listed (mixed_matrix_of model) c.deref-place-items.result.now c.in_ok-places.places.items c.deref-place-items.ensures.value
    c.in_ok-places.ensures c.loop-place.place-index first c.loop-place-test.true in
    rw failed.1
    (subst (λ why. IsMissing (LacksValue numbers model) why) (sym failed.2)
    (missing-so (number_for numbers (place_names model place.equation place.unknown) ≡ None) (LacksValue numbers model) c.in_err-value.field-0.0
    (λ none. (place.equation, place.unknown, listed.0, none)) c.in_err-value.ensures.missing))

pub loop-place-preserved : goal.loop-place-preserved
loop-place-preserved g c =
    let numbers = c.args.lines.now.numbers in
    let model = c.args.model.now in
    let h = c.loop-place.place-index in
    let first : SymbolPlace = record { equation = 0; unknown = 0 } in
    let place = get_or c.deref-place-items.result.now h first in
    let listed = place-listed (mixed_matrix_of model) c.deref-place-items.result.now c.in_ok-places.places.items c.deref-place-items.ensures.value
    c.in_ok-places.ensures h first c.loop-place-test.true in
    subst (AreFirstValues numbers model (h + 1)) (sym c.in_ok-push.ensures.items)
    (values-next numbers model h place.equation place.unknown c.loop-place.values.items c.in_ok-value.value listed.0 listed.1
    c.in_ok-value.ensures.value c.loop-place.invariant)

pub returns-clause-values : goal.returns-clause-values
returns-clause-values g c =
    let all = ap length c.deref-place-items.ensures.value in
    values-all c.args.lines.now.numbers c.args.model.now c.loop-place.place-index c.loop-place.values.items
    (omega (arith, all, c.in_ok-places.ensures.count, c.loop-place-test.false, c.loop-place.auto.place-index-end)) c.loop-place.invariant
