use Rattle.std.proofs.Common.{◌≡◌, ◌-◌, ℕ, Bool, slice_index}
use Rattle.closed_sets.specs.Tables.{Tells}
use Rattle.closed_sets.proofs.Listings.{Started}
use Rattle.bit_table.specs.Bits.{bit_in}
use Rattle.minimiser_lattice.specs.Components.{component_number, component_places}
use Rattle.minimiser_lattice.specs.Standings.{is_listed}
use Rattle.minimiser_lattice.specs.Ready.{AreApartIn}
use Rattle.minimiser_lattice.specs.Listings.{HasPlaces, HasStandings, IsOpenedListing, middle_of, standing_of, reached_table}
use Rattle.minimiser_lattice.proofs.listing.Listing.list.Given as goal

abbrev pub invariant-loop-place : goal.invariant-loop-place
invariant-loop-place l = record {
  opened : IsOpenedListing l.self (component_places l.components);
  kept : l.self ≡ record l.fn.self {
    standing = l.self.standing;
    ready = l.self.ready;
    rank = l.self.rank;
    listed = l.self.listed;
    blocks = l.self.blocks;
  };
  apart : AreApartIn l.components (standing_of l.self) (λ _. ⊥) l.self.ready;
  standings : HasStandings l.components.count (middle_of l.fn.self) (standing_of l.self)
      (λ j. slice_index l.self.listed.items j) l.self.blocks;
  has : HasPlaces l.components.count (middle_of l.fn.self) (λ k. slice_index l.self.rank.items k)
      (λ j. slice_index l.self.listed.items j) l.self.blocks;
  started : (arc : ℕ → ℕ → Bool) (starts ends : ℕ → Bool) →
      Tells arc (component_places l.components) starts ends (reached_table (bit_in l.components.strict) (component_number l.components))
      (λ x. middle_of l.fn.self (component_number l.components x)) →
      Started arc (component_places l.components) starts ends l.self.blocks
      (λ x. is_listed (standing_of l.self (component_number l.components x)))
      (λ x. slice_index l.self.rank.items (component_number l.components x));
}

abbrev pub decreases-loop-place : goal.decreases-loop-place
decreases-loop-place l = l.components.count - l.self.blocks
