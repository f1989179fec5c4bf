use Rattle.std.proofs.Common.{◌≡◌}
use Rattle.minimiser_lattice.specs.Components.{component_places}
use Rattle.minimiser_lattice.specs.Listings.{AllWait, IsOpenedListing, middle_of, standing_of}
use Rattle.minimiser_lattice.proofs.listing.Listing.let_others_wait.Given as goal

abbrev pub invariant-loop-k : goal.invariant-loop-k
invariant-loop-k l = record {
  opened : IsOpenedListing l.self (component_places l.components);
  kept : l.self ≡ record l.fn.self { standing = l.self.standing };
  wait : AllWait l.k (middle_of l.fn.self) (standing_of l.self);
}
