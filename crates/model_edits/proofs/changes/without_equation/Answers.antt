use Rattle.std.proofs.Common.{◌≡◌, ◌∙◌, ap, subst, sym}
use Rattle.mixed_edit_laws.specs.Changes.{IsRemoved}
use Rattle.mixed_model.specs.Models.{IsModel, equation_removed, mixed_matrix_of}
use Rattle.model_edit_laws.proofs.Edits.{removed}
use Rattle.model_edits.proofs.changes.without_equation.Goals as goal

pub returns-clause-change : goal.returns-clause-change
returns-clause-change g c =
    let same = c.in_ok-less.ensures.same in
    let i = c.in_ok-i.i in
    let less : c.remove_equation.new.self ≡ equation_removed c.args.model.now i =
    c.remove_equation.ensures.removed ∙ ap (λ m. equation_removed m i) same in
    subst (λ m. IsRemoved (mixed_matrix_of c.args.model.now) (mixed_matrix_of m) i) (sym less)
    (removed _ c.args.model.now i (subst (IsModel _) same c.in_ok-less.ensures.model) c.in_ok-i.ensures.within)
