use Rattle.dense_q.specs.Tables.{entry}
use Rattle.exchange_graph.specs.Results.{step_of}
use Rattle.equation_choice.proofs.Growing.{IsGrowing}
use Rattle.equation_choice.proofs.pair.Pair.grow.Given as goal

abbrev pub invariant-loop-at : goal.invariant-loop-at
invariant-loop-at g l = IsGrowing g.F.Field.modulus (entry l.layered.q) (g.T.Tableau.state l.fn.self.tableau) l.fn.self.mates l.from
    (step_of l.search) l.last l.at l.row (g.T.Tableau.state l.self.tableau) l.self.mates
