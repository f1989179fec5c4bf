use Rattle.ccf_builder.specs.Pairs.{ListsPairs, IsMate}
use Rattle.ccf_builder.proofs.pairs.mate_pairs.Given as goal

abbrev pub invariant-loop-row : goal.invariant-loop-row
invariant-loop-row g l = ListsPairs (IsMate l.engine.matching (g.T.Tableau.state l.engine.tableau).columns) l.row l.pairs.items
