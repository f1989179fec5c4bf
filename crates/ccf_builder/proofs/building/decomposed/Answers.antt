use Rattle.std.proofs.Common.{length, ap, subst, ◌∙◌}
use Rattle.mixed_model.specs.Layers.{Layers}
use Rattle.ccf_builder.specs.Pairs.{AreWithin, ListsPair}
use Rattle.ccf_builder.proofs.building.decomposed.Goals as goal

pub returns : goal.returns
returns g c =
    let S = g.T.Tableau.state c.in_ok-engine.engine.tableau in
    let M = c.in_ok-engine.engine.matching in
    let P = c.in_ok-pair.ensures in
    let pair = c.in_ok-pair.pair in
    let rows = c.rows.ensures.rows ∙ ap (λ (v : Layers). length v.t.rows) c.l.view_is in
    record {
      solution = c.in_ok-engine.ensures;
      decomposed = c.in_ok-lattice.ensures;
      pair = subst (λ n. ListsPair S M n pair.base.items pair.mates.items) rows P.lists;
      base_within = P.base;
      mates_within = subst (λ n. AreWithin n S.columns pair.mates.items) rows P.mates;
    }
