-- Every layered matrix has its canonical form: a best pair stands in a tableau, in which no end is reached from a free column.
use Rattle.std.proofs.Common.{◌≡◌, ◌<◌, ℕ, Bool, arith}
use Rattle.residue_theory.specs.Residues.{IsPrime}
use Rattle.closed_sets.proofs.Listings.{listing_exists}
use Rattle.closed_sets.specs.Blocks.{IsListing}
use Rattle.mixed_matrices.specs.Arcs.{HasNoWalk, is_end, is_free, leads_to}
use Rattle.mixed_matrices.specs.CanonicalParts.{AreCanonical, AreRightParts}
use Rattle.mixed_matrices.specs.Forms.{Parts}
use Rattle.mixed_matrices.specs.LayeredMatrices.{LayeredMatrix}
use Rattle.mixed_matrices.specs.Pairs.{IsBest}
use Rattle.mixed_matrices.specs.Tableaus.{HasTableau, IsTableau, Tableau}
use Rattle.mixed_pair_laws.proofs.BestPairs.{Optimal, optimal}
use Rattle.mixed_pair_laws.proofs.MinMax.{best-clear}
use Rattle.mixed_pair_laws.proofs.PairBounds.{bound}
use Rattle.mixed_pair_laws.proofs.TableauParts.{tableau}
use Rattle.mixed_pair_laws.proofs.PairTableaus.{pair_tableau}
use Rattle.mixed_form_laws.proofs.FormExists.{found-kept, found_below, found_lower, found_parts}
use Rattle.mixed_form_laws.proofs.OneListing.{same-blocks, same-column}
use Rattle.mixed_form_laws.proofs.RightParts.{kept-right}

-- a tableau whose pair is best
pub record BestTableau (p : ℕ) (L : LayeredMatrix) : Type 0 where
  pub S : ℕ → ℕ → ℕ
  pub U : ℕ → ℕ → ℕ
  pub F : Tableau
  pub is_tableau : IsTableau p L S U F
  pub clear : HasNoWalk p L F

pub best_tableau : (p : ℕ) → IsPrime p → (L : LayeredMatrix) → BestTableau p L
best_tableau p prime L = go (optimal p prime L)
  where
    go : Optimal p L → BestTableau p L
    go O = stand (pair_tableau p prime L O.I O.J O.mate O.pair)
      where
        best : IsBest p L O.I O.J
        best A B mate pair = omega (arith, O.equal, bound p L A B mate O.X O.r pair O.rank)

        stand : (S : ℕ → ℕ → ℕ) × (U : ℕ → ℕ → ℕ) × (P : ℕ → ℕ → ℕ) × (row : ℕ → ℕ) × IsTableau p L S U
            (record { P = P; base = O.I; row = row; matched = O.J; mate = O.mate }) → BestTableau p L
        stand (S, U, P, row, tab) = record {
          S = S;
          U = U;
          F = record { P = P; base = O.I; row = row; matched = O.J; mate = O.mate };
          is_tableau = tab;
          clear = best-clear p prime L (record { P = P; base = O.I; row = row; matched = O.J; mate = O.mate })
              (tableau p prime L S U (record { P = P; base = O.I; row = row; matched = O.J; mate = O.mate }) tab) best;
        }

pub canonical_form : (p : ℕ) → IsPrime p → (L : LayeredMatrix) → (S : ℕ → ℕ → ℕ) × (G : Parts) × (below : ℕ → ℕ → Bool)
    × (lower : ℕ → ℕ → Bool) × AreRightParts p L S G below lower
canonical_form p prime L = go (best_tableau p prime L)
  where
    go : BestTableau p L → (S : ℕ → ℕ → ℕ) × (G : Parts) × (below : ℕ → ℕ → Bool) × (lower : ℕ → ℕ → Bool) × AreRightParts p L S G below lower
    go T = listed (listing_exists (leads_to p L T.F) L.columns (is_free T.F) (is_end p L T.F))
      where
        listed : (b : ℕ) × (block : ℕ → ℕ) × IsListing (leads_to p L T.F) L.columns (is_free T.F) (is_end p L T.F) block b →
            (S : ℕ → ℕ → ℕ) × (G : Parts) × (below : ℕ → ℕ → Bool) × (lower : ℕ → ℕ → Bool) × AreRightParts p L S G below lower
        listed (b, block, listing) = (
          T.S,
          found_parts p L T.F T.is_tableau.base.distinct T.is_tableau.matching.distinct T.clear b block listing,
          found_below p L T.F T.is_tableau.base.distinct T.is_tableau.matching.distinct T.clear b block listing,
          found_lower p L T.F T.is_tableau.base.distinct T.is_tableau.matching.distinct T.clear b block listing,
          kept-right p prime L T.S T.U T.F T.is_tableau
              (found_parts p L T.F T.is_tableau.base.distinct T.is_tableau.matching.distinct T.clear b block listing)
              (found_below p L T.F T.is_tableau.base.distinct T.is_tableau.matching.distinct T.clear b block listing)
              (found_lower p L T.F T.is_tableau.base.distinct T.is_tableau.matching.distinct T.clear b block listing)
              (found-kept p L T.F T.is_tableau.base.distinct T.is_tableau.matching.distinct T.clear b block listing),
        )

-- canonical parts are one
module _ (p : ℕ) (prime : IsPrime p) (L : LayeredMatrix) (G H : Parts) (C : AreCanonical p L G) (D : AreCanonical p L H) where
  one-choice : BestTableau p L → (G.blocks ≡ H.blocks) × ((x : ℕ) → x < L.columns → G.column x ≡ H.column x)
  one-choice T = let has : HasTableau p L T.F = tableau p prime L T.S T.U T.F T.is_tableau in
      (same-blocks p prime L T.F has T.clear G H C D, same-column p prime L T.F has T.clear G H C D)

  pub canonical-one : (G.blocks ≡ H.blocks) × ((x : ℕ) → x < L.columns → G.column x ≡ H.column x)
  canonical-one = one-choice (best_tableau p prime L)
