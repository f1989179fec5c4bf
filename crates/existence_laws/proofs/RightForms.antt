-- Each model has a right form.
use Rattle.std.proofs.Common.{ℕ, arith}
use Rattle.closed_sets.proofs.Listings.{listing_exists}
use Rattle.closed_sets.specs.Blocks.{IsListing}
use Rattle.mixed_matrices.specs.Arcs.{is_end, is_free, leads_to}
use Rattle.existence_laws.specs.Forms.{EachModelHasARightForm, HasRightForm}
use Rattle.existence_laws.proofs.Printed.{form-of}
use Rattle.existence_laws.proofs.Reduced.{LowTableau, low_tableau}

pub right-form : EachModelHasARightForm
right-form p prime big M rows columns L O lay = go (low_tableau p prime (omega (arith, big)) L)
  where
    go : LowTableau p L → HasRightForm p M L O
    go T = stand (listing_exists (leads_to p L T.F) L.columns (is_free T.F) (is_end p L T.F))
      where
        stand : (b : ℕ) × (block : ℕ → ℕ) × IsListing (leads_to p L T.F) L.columns (is_free T.F) (is_end p L T.F) block b → HasRightForm p M L O
        stand (b, block, listing) = form-of p L T b block listing M O prime big rows columns lay
