use Rattle.edit_desk.proofs.HeldLaws.{updated-run}
use Rattle.edit_desk.proofs.held.Held.open_counting.Goals as goal

pub invariant_of-result : goal.invariant_of-result
invariant_of-result g c = record {
  model = c.is_model.ensures;
  layers = c.in_ok-layered.ensures;
  best = updated-run g.row.T.Denot g.T.Tableau.state g.T.Tableau.pivots g.F.Field.modulus c.in_ok-layered.layered
      c.in_ok-engine.engine c.run.new.self _ _ c.in_ok-engine.ensures.opened c.run.ensures.run;
}
