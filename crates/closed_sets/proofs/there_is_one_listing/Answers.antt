use Rattle.closed_sets.proofs.Listings.{listing_exists}
use Rattle.closed_sets.proofs.ListingUnique.{listing-same, listing-size}
use Rattle.closed_sets.proofs.there_is_one_listing.Goals as goal

pub returns : goal.returns
returns c arc n starts ends = (
  listing_exists arc n starts ends,
  λ f g b k F G.
      (listing-size arc n starts ends f g b k F G, listing-same arc n starts ends f g b k F G),
)
