use Rattle.std.proofs.Common.{◌≤◌, ◌-◌}
use Rattle.row_transform.specs.Tableaus.{matrix_which, width_of}
use Rattle.cert_text.specs.Contents.{numbered}
use Rattle.ccf_builder.proofs.matrices.entries_of.Given as goal
use Rattle.cert_text.specs.Printing.{PrintsRow}

abbrev pub invariant-loop-entry : goal.invariant-loop-entry
invariant-loop-entry g l =
    let S = g.T.Tableau.state l.tableau in
    record {
      within : l.at ≤ width_of l.which S;
      prints : PrintsRow g.F.Field.modulus l.at (matrix_which l.which S l.row) (numbered g.F.Field.number l.entries.items);
    }

abbrev pub decreases-loop-entry : goal.decreases-loop-entry
decreases-loop-entry g l = width_of l.which (g.T.Tableau.state l.tableau) - l.at
