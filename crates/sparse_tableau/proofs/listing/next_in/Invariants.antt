use Rattle.std.proofs.Common.{◌-◌, ◌≤◌}
use Rattle.residue_theory.specs.Ranges.{HasNone}
use Rattle.sparse_tableau.specs.Listings.{has_number_at}
use Rattle.sparse_tableau.proofs.listing.next_in.Given as goal

abbrev pub invariant-loop-row : goal.invariant-loop-row
invariant-loop-row g l = record {
  from_on : l.from ≤ l.at;
  none : HasNone (has_number_at l.m l.col) l.from l.at;
}

abbrev pub decreases-loop-row : goal.decreases-loop-row
decreases-loop-row g l = l.rows - l.at
