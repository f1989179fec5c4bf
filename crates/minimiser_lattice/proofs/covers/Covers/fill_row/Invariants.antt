use Rattle.std.proofs.Common.{◌≡◌, ◌≢◌, ℕ, ◌<◌, ◌≤◌}
use Rattle.bit_table.specs.Bits.{bit_in}
use Rattle.minimiser_lattice.specs.Components.{component_places}
use Rattle.minimiser_lattice.specs.Listings.{listed_of}
use Rattle.minimiser_lattice.specs.Covers.{HasCoverRoom, IsGathered, IsRowFrom, lower_count}
use Rattle.minimiser_lattice.proofs.covers.Covers.fill_row.Given as goal

abbrev pub invariant-loop-left : goal.invariant-loop-left
invariant-loop-left l = record {
  room : HasCoverRoom l.self (component_places l.components);
  within : l.left ≤ l.initial.left;
  gathered : IsGathered (bit_in l.components.strict) (listed_of l.listing l.j) (listed_of l.listing l.j) (lower_count l.self)
      l.initial.left;
  row : IsRowFrom (component_places l.components) (bit_in l.components.strict) (lower_count l.self) l.initial.left
      (listed_of l.listing) l.listing.blocks (bit_in l.self.table) (bit_in l.self.between 0) l.j l.left;
  others : (k i : ℕ) → i < component_places l.components → k ≢ l.j → bit_in l.self.table k i ≡ bit_in l.fn.self.table k i;
}

abbrev pub decreases-loop-left : goal.decreases-loop-left
decreases-loop-left l = l.left
