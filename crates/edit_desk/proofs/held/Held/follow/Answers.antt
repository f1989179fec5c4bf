use Rattle.std.proofs.Common.{subst, sym}
use Rattle.independent_matching.specs.Changes.{IsAfter}
use Rattle.mixed_model.specs.Models.{mixed_matrix_of}
use Rattle.edit_desk.specs.Held.{HeldModel}
use Rattle.edit_desk.proofs.HeldLaws.{edit-of-best, updated-kept}
use Rattle.edit_desk.proofs.held.Held.follow.Goals as goal

pub update-requires : goal.update-requires
update-requires g c = record {
  best = edit-of-best g.row.T.Denot g.T.Tableau.state g.F.Field.modulus
      (record { model = c.self.inside.model; layers = c.self.inside.layered; engine = c.self.inside.engine }) c.self.invariant
      c.args.change c.args.model c.in_ok-layered.layered c.in_ok-layered.ensures
      (subst (λ (v : HeldModel g.row.T.Denot). IsAfter c.args.change (mixed_matrix_of v.model) (mixed_matrix_of c.args.model))
      (sym c.self.view_is) c.requires);
}

pub invariant_of-self : goal.invariant_of-self
invariant_of-self g c = record {
  model = c.self.invariant.model;
  layers = c.self.invariant.layers;
  best = updated-kept g.row.T.Denot g.T.Tableau.state g.T.Tableau.pivots g.F.Field.modulus c.self.inside.layered
      c.self.inside.engine c.update.new.self c.in_err-update.ensures.kept c.self.invariant.best;
}
