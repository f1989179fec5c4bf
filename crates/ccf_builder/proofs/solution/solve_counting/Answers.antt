use Rattle.std.proofs.Common.{subst, ◌∙◌}
use Rattle.dense_q.specs.Tables.{entry}
use Rattle.exchange_graph.specs.Results.{vain_of}
use Rattle.independent_matching.specs.Engines.{IsSolved}
use Rattle.independent_matching.specs.Sides.{tableau_of_pair}
use Rattle.ccf_builder.proofs.solution.solve_counting.Goals as goal

pub returns : goal.returns
returns g c =
    let q = entry c.args.layered.now.q in
    let now = c.run.new.self in
    let same = c.run.ensures.run.same q ∙ c.in_ok-engine.ensures.opened.layers_are in
    let entries = c.run.ensures.run.entries q c.in_ok-engine.ensures.opened.entries in
    record {
      layers_are = same;
      entries = entries;
      solved = subst (λ M. IsSolved g.F.Field.modulus M (tableau_of_pair (g.T.Tableau.state now.tableau) now.matching)
          (vain_of now.found)) same (c.run.ensures.run.solved q entries);
    }
