use Rattle.std.proofs.Common.{◌≡◌, ◌≤◌, not}
use Rattle.residue_theory.specs.Sums.{size_on}
use Rattle.exchange_graph.specs.Marks.{members_of}
use Rattle.independent_matching.proofs.resting.Resting.taken.Given as goal

abbrev pub invariant-loop-x : goal.invariant-loop-x
invariant-loop-x l = record {
  counted : l.taken ≡ size_on (λ x. not (members_of l.self.free.items x)) l.x;
  few : l.taken ≤ l.x;
}
