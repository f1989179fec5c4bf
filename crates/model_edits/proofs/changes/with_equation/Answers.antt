use Rattle.std.proofs.Common.{◌≡◌, ◌∷◌, Some, codes, length, subst, sym}
use Rattle.std.proofs.lemmas.Result.{err_from_is_err_and}
use Rattle.refusals.specs.Faults.{OnBroken}
use Rattle.mixed_model.specs.Models.{MixedModel}
use Rattle.matrix_reader.proofs.LineSteps.{words}
use Rattle.model_edit_laws.specs.Edits.{IsEditedAt}
use Rattle.model_edit_laws.proofs.Edits.{added}
use Rattle.model_edits.specs.Commands.{edit_rule}
use Rattle.model_edits.specs.Marks.{SaysItems}
use Rattle.model_edits.proofs.AddingSteps.{AddsEquation-from, adding_broken, adding_kept}
use Rattle.model_edits.proofs.changes.with_equation.Goals as goal

pub returns-in_err-put_items-clause-edited : goal.returns-in_err-put_items-clause-edited
returns-in_err-put_items-clause-edited g c =
    let exit = c.from_residual-in_err-put_items in
    let failed = err_from_is_err_and exit.result exit.ensures.1 in
    let p = g.F.Field.modulus in
    let model = c.args.model.now in
    let name = c.args.equation.now in
    let items = words c.args.items in
    let more = c.in_ok-more.more in
    rw failed.1
    (subst (λ fault. OnBroken fault (λ why. edit_rule p (codes "add") model (name ∷ items) ≡ Some why)) (sym failed.2)
    (adding_broken p model more name items c.in_err-put_items.field-0.0 (SaysItems p more c.put_items.new.model c.in_ok-more.i items)
    c.in_ok-more.ensures.added c.in_ok-more.ensures.rule c.in_err-put_items.ensures))

pub returns-clause-edited : goal.returns-clause-edited
returns-clause-edited g c =
    let p = g.F.Field.modulus in
    let model = c.args.model.now in
    let name = c.args.equation.now in
    let items = words c.args.items in
    let more = c.in_ok-more.more in
    let bare = c.in_ok-more.ensures in
    let put = c.in_ok-put_items.ensures in (
      adding_kept p model more name items bare.added bare.rule put.0,
      AddsEquation-from p model more c.put_items.new.model name c.in_ok-more.i items bare.model bare.added bare.last put.1,
    )

pub returns-clause-change : goal.returns-clause-change
returns-clause-change g c =
    let model = c.args.model.now in
    let new = c.put_items.new.model in
    let bare = c.in_ok-more.ensures in
    let put = c.in_ok-put_items.ensures in
    added _ model new c.args.equation.now bare.model
    (subst (λ (m : MixedModel). IsEditedAt m new (length model.equations)) bare.added
    (subst (λ k. IsEditedAt c.in_ok-more.more new k) bare.last put.1.edited))
