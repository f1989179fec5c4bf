use Rattle.std.proofs.Common.{◌≡◌, ℕ, ◌<◌, false}
use Rattle.exchange_graph.specs.Marks.{members_of}
use Rattle.minimiser_lattice.specs.Components.{component_places}
use Rattle.minimiser_lattice.specs.Listings.{IsOpenedListing}
use Rattle.minimiser_lattice.proofs.listing.Listing.clear.Given as goal

abbrev pub invariant-loop-k : goal.invariant-loop-k
invariant-loop-k l = record {
  opened : IsOpenedListing l.self (component_places l.components);
  blocks : l.self.blocks ≡ 0;
  first : (k : ℕ) → k < l.k → members_of l.self.first.items k ≡ false;
  last : (k : ℕ) → k < l.k → members_of l.self.last.items k ≡ false;
}
