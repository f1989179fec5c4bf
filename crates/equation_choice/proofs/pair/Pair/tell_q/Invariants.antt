use Rattle.std.proofs.Common.{◌-◌}
use Rattle.equation_choice.specs.Told.{AddsMarks}
use Rattle.equation_choice.proofs.TellLaws.{ToldBefore}
use Rattle.equation_choice.proofs.pair.Pair.tell_q.Given as goal

abbrev pub invariant-loop-found : goal.invariant-loop-found
invariant-loop-found g l = AddsMarks (ToldBefore g.F.Field.modulus l.layered (g.T.Tableau.state l.self.tableau) l.symbols l.row l.at) l.fn.told l.told

abbrev pub decreases-loop-found : goal.decreases-loop-found
decreases-loop-found g l = (g.T.Tableau.state l.self.tableau).rows - l.at
