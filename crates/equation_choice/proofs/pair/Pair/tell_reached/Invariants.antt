use Rattle.exchange_graph.specs.Results.{reached_of}
use Rattle.equation_choice.specs.Told.{AddsMarks, IsToldByReached}
use Rattle.equation_choice.proofs.pair.Pair.tell_reached.Given as goal

abbrev pub invariant-loop-x : goal.invariant-loop-x
invariant-loop-x g l = AddsMarks (IsToldByReached g.F.Field.modulus l.layered (g.T.Tableau.state l.self.tableau) l.self.mates l.symbols
    (reached_of l.search) l.x) l.fn.told l.told
