use Rattle.row_transform.specs.Tableaus.{IsBaseColumn}
use Rattle.ccf_builder.specs.Pairs.{ListsPairs}
use Rattle.ccf_builder.proofs.pairs.base_pairs.Given as goal

abbrev pub invariant-loop-row : goal.invariant-loop-row
invariant-loop-row g l = ListsPairs (IsBaseColumn (g.T.Tableau.state l.tableau)) l.row l.pairs.items
