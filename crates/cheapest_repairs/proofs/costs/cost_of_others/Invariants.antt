use Rattle.std.proofs.Common.{◌≡◌, ◌≤◌, ◌*◌, slice_index}
use Rattle.residue_theory.specs.Sets.{has}
use Rattle.residue_theory.specs.Sums.{sum_on}
use Rattle.equation_matroid_laws.specs.GreedyChoices.{outside}
use Rattle.cheapest_repairs.proofs.costs.cost_of_others.Given as goal

abbrev pub invariant-loop-equation : goal.invariant-loop-equation
invariant-loop-equation l =
    (l.total ≡ sum_on (outside (has l.kept)) l.equation-counter (slice_index l.costs)) × (l.total ≤ l.equation-counter * 999999999)
