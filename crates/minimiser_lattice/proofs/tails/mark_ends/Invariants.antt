use Rattle.std.proofs.Common.{◌≡◌, ℕ, ◌<◌, true, length}
use Rattle.exchange_graph.specs.Marks.{members_of}
use Rattle.bit_table.specs.Bits.{bit_in}
use Rattle.minimiser_lattice.specs.Components.{leads_in, component_number, component_places}
use Rattle.minimiser_lattice.proofs.tails.mark_ends.Given as goal

abbrev pub invariant-loop-k : goal.invariant-loop-k
invariant-loop-k l = record {
  count : length l.marks ≡ length l.fn.marks;
  some : (k : ℕ) → k < l.components.count → members_of l.marks k ≡ true → (x : ℕ) × (x < component_places l.components)
      × (members_of l.ends x ≡ true) × (leads_in (bit_in l.components.strict) k (component_number l.components x) ≡ true);
  own : (x : ℕ) → x < component_places l.components → members_of l.ends x ≡ true →
      members_of l.marks (component_number l.components x) ≡ true;
  made : (k x : ℕ) → k < l.k → x < component_places l.components → members_of l.ends x ≡ true →
      leads_in (bit_in l.components.strict) k (component_number l.components x) ≡ true → members_of l.marks k ≡ true;
}
