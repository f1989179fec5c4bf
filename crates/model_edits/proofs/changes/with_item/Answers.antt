use Rattle.std.proofs.Common.{◌≡◌, ◌⊎◌, ◌<◌, ◌∷◌, [], Err, Some, codes, length, subst, sym}
use Rattle.std.proofs.lemmas.Result.{err_from_is_err_and}
use Rattle.refusals.specs.Faults.{OnBroken}
use Rattle.mixed_edit_laws.specs.Changes.{IsChanged}
use Rattle.mixed_model.specs.declared.errors.AddError.TheVariants.{NoMemory}
use Rattle.mixed_model.specs.Models.{MixedModel, mixed_matrix_of}
use Rattle.mixed_model.specs.Names.{seeing}
use Rattle.model_edit_laws.proofs.Edits.{changed}
use Rattle.model_edits.specs.Commands.{edit_rule}
use Rattle.model_edits.proofs.SettingSteps.{SetsPlaceOf-from, set_broken, set_kept}
use Rattle.model_edits.proofs.changes.with_item.Goals as goal

pub returns-in_err-set_item-clause-edited : goal.returns-in_err-set_item-clause-edited
returns-in_err-set_item-clause-edited g c =
    let exit = c.from_residual-in_err-set_item in
    let failed = err_from_is_err_and exit.result exit.ensures.1 in
    let p = g.F.Field.modulus in
    let model = c.args.model.now in
    let name = c.args.equation.now in
    let item = c.args.token.now in
    let error = c.in_err-set_item.field-0.0 in
    let refused = subst (λ unknown. (error ≡ NoMemory) ⊎ (seeing model.unknowns unknown ≡ Err error)) c.in-Ok.ensures.says.unknown_is
    (subst (λ (m : MixedModel). (error ≡ NoMemory) ⊎ (seeing m.unknowns c.in-Ok.said.unknown.now ≡ Err error)) c.in_ok-other.ensures.same
    c.in_err-set_item.ensures.refused) in
    rw failed.1
    (subst (λ fault. OnBroken fault (λ why. edit_rule p (codes "set") model (name ∷ item ∷ []) ≡ Some why)) (sym failed.2)
    (set_broken p model name item error c.in_ok-i.ensures.rule c.in-Ok.ensures.rule refused))

pub returns-clause-edited : goal.returns-clause-edited
returns-clause-edited g c =
    let p = g.F.Field.modulus in
    let model = c.args.model.now in
    let name = c.args.equation.now in
    let item = c.args.token.now in
    let said = c.in-Ok.said in
    let edited = SetsPlaceOf-from p model c.in_ok-other.other c.set_item.new.model name item said.unknown.now c.in_ok-i.i _ said.symbol
    c.in_ok-other.ensures.same c.in_ok-i.ensures.found c.in-Ok.ensures.says c.in_ok-set_item.ensures.set in
    (set_kept p model name item edited.set.unknown c.in_ok-i.ensures.rule c.in-Ok.ensures.rule edited.set.seen, edited)

pub returns-clause-change : goal.returns-clause-change
returns-clause-change g c =
    let same = c.in_ok-other.ensures.same in
    let other = c.in_ok-other.other in
    let i = c.in_ok-i.i in
    subst (λ (m : MixedModel). IsChanged (mixed_matrix_of m) (mixed_matrix_of c.set_item.new.model) i) same
    (changed _ other c.set_item.new.model i c.in_ok-other.ensures.model
    (subst (λ (m : MixedModel). i < length m.equations) (sym same) c.in_ok-i.ensures.within) c.in_ok-set_item.ensures.edited)
