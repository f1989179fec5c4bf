use Rattle.std.proofs.Common.{◌≡◌, ℕ, ◌<◌, true, false}
use Rattle.exchange_graph.specs.Marks.{members_of}
use Rattle.minimiser_lattice.specs.Components.{component_number}
use Rattle.minimiser_lattice.proofs.tails.mark_own.Given as goal

abbrev pub invariant-loop-place : goal.invariant-loop-place
invariant-loop-place l = record {
  some : (k : ℕ) → members_of l.fn.marks k ≡ false → members_of l.marks k ≡ true →
      (x : ℕ) × (x < l.place) × (members_of l.ends x ≡ true) × (component_number l.components x ≡ k);
  made : (x : ℕ) → x < l.place → members_of l.ends x ≡ true → members_of l.marks (component_number l.components x) ≡ true;
}
