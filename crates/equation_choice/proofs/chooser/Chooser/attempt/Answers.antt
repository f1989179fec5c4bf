use Rattle.std.proofs.Common.{ap}
use Rattle.dense_q.specs.Tables.{entry}
use Rattle.equation_choice.proofs.Joins.{has-joined, no-first}
use Rattle.equation_choice.proofs.chooser.Chooser.attempt.Goals as goal

pub returns-in-Some-clause-joined : goal.returns-in-Some-clause-joined
returns-in-Some-clause-joined g c holds = has-joined g.F.Field.modulus g.met.F.Field.prime c.args.layered.now c.enter.ensures.layers
    (g.T.Tableau.state c.args.self.now.pair.tableau) c.args.self.now.pair.mates c.requires.ready.over c.args.equation c.args.rows.q c.args.rows.t
    c.args.rows.auxiliary c.requires.rows c.enter.new.self.pair.mates c.enter.ensures.entered (g.T.Tableau.state c.enter.new.self.pair.tableau)
    (ap g.T.Tableau.state c.enter.ensures.tableau) c.in-Some.row c.in-Some.ensures.some (g.T.Tableau.state c.grow_from.new.self.pair.tableau)
    c.grow_from.new.self.pair.mates (c.grow_from.ensures.grown holds)

pub returns-in-None-clause-refused : goal.returns-in-None-clause-refused
returns-in-None-clause-refused g c fails = record {
  parts = c.enter.ensures.layers;
  state = ap g.T.Tableau.state c.enter.ensures.tableau;
  entered = c.enter.ensures.entered;
  vain = λ s first bare. absurd (no-first (entry c.args.layered.now.q) (g.T.Tableau.state c.args.self.now.pair.tableau)
      (g.T.Tableau.state c.enter.new.self.pair.tableau) (ap g.T.Tableau.state c.enter.ensures.tableau) c.enter.new.self.pair.mates c.args.rows.q
      c.args.rows.t c.in-None.ensures.none s first bare);
}
