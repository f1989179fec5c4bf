use Rattle.std.proofs.Common.{◌≡◌, ℕ, ◌<◌, ◌≤◌, true}
use Rattle.minimiser_lattice.specs.Components.{component_places}
use Rattle.minimiser_lattice.specs.Standings.{standing_in}
use Rattle.minimiser_lattice.specs.Ready.{AreApartIn, held_of}
use Rattle.minimiser_lattice.proofs.ready.Ready.begin.Given as goal

abbrev pub invariant-loop-k : goal.invariant-loop-k
invariant-loop-k l = record {
  apart : AreApartIn l.components (standing_in l.standing) (λ k. l.k ≤ k) l.self;
  held : (k : ℕ) → l.k ≤ k → k < component_places l.components → held_of l.self k ≡ true;
}
