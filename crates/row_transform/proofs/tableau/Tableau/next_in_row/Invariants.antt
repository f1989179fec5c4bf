use Rattle.residue_theory.specs.Ranges.{HasNone}
use Rattle.row_transform.specs.Tableaus.{has_entry_of}
use Rattle.row_transform.proofs.tableau.Tableau.next_in_row.Given as goal

abbrev pub invariant-loop-col : goal.invariant-loop-col
invariant-loop-col g l = HasNone (has_entry_of l.which (g.Self.Tableau.state l.self) l.row) l.from l.col
