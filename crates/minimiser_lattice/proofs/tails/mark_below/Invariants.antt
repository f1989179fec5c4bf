use Rattle.std.proofs.Common.{◌≡◌, ℕ, ◌<◌, ◌≤◌, ◌-◌, ◌||◌, nat_eq}
use Rattle.exchange_graph.specs.Marks.{members_of}
use Rattle.bit_table.specs.Bits.{bit_in}
use Rattle.minimiser_lattice.specs.Components.{leads_in}
use Rattle.minimiser_lattice.proofs.tails.mark_below.Given as goal

abbrev pub invariant-loop-k : goal.invariant-loop-k
invariant-loop-k l = record {
  within : l.at ≤ l.components.count;
  done : (j : ℕ) → j < l.at → members_of l.marks j ≡ (members_of l.fn.marks j || leads_in (bit_in l.components.strict) l.from j);
  rest : (j : ℕ) → l.at ≤ j → members_of l.marks j ≡ (members_of l.fn.marks j || nat_eq l.from j);
}

abbrev pub decreases-loop-k : goal.decreases-loop-k
decreases-loop-k l = l.components.count - l.at
