use Rattle.std.proofs.Common.{◌≡◌, ℕ, ◌<◌, ◌≤◌, false}
use Rattle.bit_table.specs.Bits.{bit_in}
use Rattle.minimiser_lattice.specs.Components.{component_places}
use Rattle.minimiser_lattice.specs.Listings.{listed_of}
use Rattle.minimiser_lattice.specs.Covers.{HasCoverRoom, IsCoverRow}
use Rattle.minimiser_lattice.proofs.covers.Covers.fill.Given as goal

abbrev pub invariant-loop-j : goal.invariant-loop-j
invariant-loop-j l = record {
  room : HasCoverRoom l.self (component_places l.components);
  rows : (k : ℕ) → k < l.j → IsCoverRow (component_places l.components) (bit_in l.components.strict) (listed_of l.listing)
      l.listing.blocks (bit_in l.self.table) k;
  empty : (k i : ℕ) → l.j ≤ k → i < component_places l.components → bit_in l.self.table k i ≡ false;
}
