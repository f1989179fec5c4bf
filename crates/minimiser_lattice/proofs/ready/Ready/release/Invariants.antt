use Rattle.std.proofs.Common.{◌≡◌, ◌-◌, ℕ, ◌<◌, ◌≤◌, true}
use Rattle.bit_table.specs.Bits.{bit_in}
use Rattle.minimiser_lattice.specs.Components.{component_places}
use Rattle.minimiser_lattice.specs.Standings.{standing_in}
use Rattle.minimiser_lattice.specs.Ready.{AreApartIn}
use Rattle.minimiser_lattice.proofs.ready.Ready.release.Given as goal

abbrev pub invariant-loop-k : goal.invariant-loop-k
invariant-loop-k l = record {
  apart : AreApartIn l.components (standing_in l.standing) (λ k. (l.from ≤ k) × (bit_in l.fn.self.waits l.l k ≡ true)) l.self;
  row : (k : ℕ) → k < component_places l.components → bit_in l.self.waits l.l k ≡ bit_in l.fn.self.waits l.l k;
}

abbrev pub decreases-loop-k : goal.decreases-loop-k
decreases-loop-k l = l.components.count - l.from
