use Rattle.std.proofs.Common.{◌≡◌, ℕ, ◌<◌, ◌≤◌, ◌-◌, true, false}
use Rattle.exchange_graph.specs.Marks.{members_of}
use Rattle.bit_table.specs.Bits.{bit_in}
use Rattle.minimiser_lattice.proofs.tails.leads_to_marked.Given as goal

abbrev pub invariant-loop-l : goal.invariant-loop-l
invariant-loop-l l = record {
  within : l.from ≤ l.k;
  none : (y : ℕ) → y < l.from → bit_in l.components.strict l.k y ≡ true → members_of l.marks y ≡ false;
}

abbrev pub decreases-loop-l : goal.decreases-loop-l
decreases-loop-l l = l.k - l.from
