use Rattle.std.proofs.Common.{rules, ◌≡◌, ◌<◌, ◌∙◌, ap, length, subst, sym}
use Rattle.mixed_edit_laws.specs.Changes.{IsRemoved}
use Rattle.mixed_model.specs.Models.{IsModel, MixedModel, equation_removed, mixed_matrix_of}
use Rattle.model_edit_laws.proofs.Edits.{removed}
use Rattle.held_tables.proofs.kept_pair.without_equation.Goals as goal

pub returns : goal.returns
returns g c =
    let below : c.args.i < length c.in_ok-less.less.equations = search rules in
    let same = c.in_ok-less.ensures.same in
    let less : c.remove_equation.new.self ≡ equation_removed c.args.model.now c.args.i =
    c.remove_equation.ensures.removed ∙ ap (λ m. equation_removed m c.args.i) same in
    subst (λ m. IsRemoved (mixed_matrix_of c.args.model.now) (mixed_matrix_of m) c.args.i) (sym less)
    (removed _ c.args.model.now c.args.i (subst (IsModel _) same c.in_ok-less.ensures.model)
    (subst (λ (m : MixedModel). c.args.i < length m.equations) same below))
