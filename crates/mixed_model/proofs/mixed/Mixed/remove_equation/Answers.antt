use Rattle.std.proofs.Common.{length, ◌<◌, ap, sym, subst, ◌∙◌}
use Rattle.mixed_model.specs.Models.{IsModel, equation_removed}
use Rattle.mixed_model.proofs.ModelLaws.{IsModel-equation_removed, model_without}
use Rattle.mixed_model.proofs.mixed.Mixed.remove_equation.Goals as goal

pub invariant_of-self : goal.invariant_of-self
invariant_of-self g c =
    let inside = c.self.inside in
    subst (IsModel g.F.Field.modulus) (model_without inside.equations c.remove.new.self inside.unknowns inside.rows.items
    c.remove-2.new.self.items c.args.i c.remove.ensures.removed c.remove-2.ensures.items)
    (IsModel-equation_removed g.F.Field.modulus _ c.args.i c.self.invariant
    (subst (λ model. c.args.i < length model.equations) (sym c.self.view_is) c.requires))

pub returns-clause-removed : goal.returns-clause-removed
returns-clause-removed g c =
    let inside = c.self.inside in
    sym (model_without inside.equations c.remove.new.self inside.unknowns inside.rows.items
    c.remove-2.new.self.items c.args.i c.remove.ensures.removed c.remove-2.ensures.items)
    ∙ ap (λ model. equation_removed model c.args.i) c.self.view_is

pub returns-clause-model : goal.returns-clause-model
returns-clause-model g c = invariant_of-self g c
