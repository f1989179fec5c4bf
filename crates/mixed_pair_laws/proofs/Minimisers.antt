-- With a closed set, the pair is best, its size is the structural rank, and the minimisers are the closed sets.
use Rattle.std.proofs.Common.{◌≡◌, ◌+◌, ◌≤◌, ℕ, Bool, arith}
use Rattle.residue_theory.specs.Residues.{IsPrime}
use Rattle.residue_theory.specs.Sets.{both}
use Rattle.residue_theory.specs.Sums.{size_on}
use Rattle.linear_algebra_laws.proofs.Bases.{base-independent}
use Rattle.linear_algebra_laws.proofs.Kernels.{independent_of-kernel, kernel-sym}
use Rattle.linear_algebra_laws.proofs.Ranks.{rank-unique, rank_exists}
use Rattle.closed_sets.proofs.ClosedLaws.{least-closed}
use Rattle.closed_sets.proofs.Hulls.{reached}
use Rattle.mixed_matrices.specs.Arcs.{HasNoWalk, IsClosedIn, is_end, is_free, leads_to}
use Rattle.mixed_matrices.specs.LayeredMatrices.{LayeredMatrix}
use Rattle.mixed_matrices.specs.Pairs.{IsPair, pair_size}
use Rattle.mixed_matrices.specs.SetFunctions.{IsMinimiser, IsRho, gamma}
use Rattle.mixed_matrices.specs.Tableaus.{HasTableau, Tableau}
use Rattle.mixed_pair_laws.proofs.ClosedSets.{closed-fits, fits-closed, fits-equal, fits-rank, reached-fits}
use Rattle.mixed_pair_laws.proofs.PairBounds.{bound}

module _ (p : ℕ) (prime : IsPrime p) (L : LayeredMatrix) (F : Tableau) (tab : HasTableau p L F) where
  -- the tableau's base and matching are a pair
  pub tableau-pair : IsPair p L F.base F.matched F.mate
  tableau-pair = record {
    independent = independent_of-kernel p L.q_rows L.columns F.P L.q F.base (kernel-sym p L.q_rows L.columns L.q F.P tab.kernel)
        (base-independent p prime F.P L.q_rows L.columns F.base F.row tab.base F.base (λ j l h. h));
    matching = tab.matching;
    apart = tab.apart;
  }

  pub closed-equal : (X : ℕ → Bool) (r : ℕ) → IsRho p L X r → IsClosedIn p L F X →
      pair_size L F.base F.matched + size_on X L.columns ≡ r + gamma L X + L.columns
  closed-equal X r R C = omega (
    arith,
    fits-equal p prime L F tab X (closed-fits p prime L F tab X C),
    rank-unique p L.q L.q_rows L.columns X r (size_on (both F.base X) L.columns) R (fits-rank p prime L F tab X (closed-fits p prime L F tab X C)),
  )

  -- the bound is reached exactly at the closed sets
  pub equal-closed : (X : ℕ → Bool) (r : ℕ) → IsRho p L X r →
      pair_size L F.base F.matched + size_on X L.columns ≡ r + gamma L X + L.columns → IsClosedIn p L F X
  equal-closed X r R e = fits-closed p prime L F tab X (reached-fits p prime L F tab X r R e)

  module _ (X : ℕ → Bool) (C : IsClosedIn p L F X) where
    -- the pair is best
    pub closed-best : (I J : ℕ → Bool) (mate : ℕ → ℕ) → IsPair p L I J mate → pair_size L I J ≤ pair_size L F.base F.matched
    closed-best I J mate pair = go (rank_exists p prime L.q L.q_rows L.columns X)
      where
        go : (r : ℕ) × IsRho p L X r → pair_size L I J ≤ pair_size L F.base F.matched
        go (r, R) = omega (arith, bound p L I J mate X r pair R, closed-equal X r R C)

    -- each closed set is a minimiser
    pub closed-minimiser : IsMinimiser p L X
    closed-minimiser Y r s R S = omega (arith, closed-equal X r R C, bound p L F.base F.matched F.mate Y s tableau-pair S)

    -- each minimiser is closed
    pub minimiser-closed : (Y : ℕ → Bool) → IsMinimiser p L Y → IsClosedIn p L F Y
    minimiser-closed Y least = go (rank_exists p prime L.q L.q_rows L.columns X) (rank_exists p prime L.q L.q_rows L.columns Y)
      where
        go : (r : ℕ) × IsRho p L X r → (s : ℕ) × IsRho p L Y s → IsClosedIn p L F Y
        go (r, R) (s, S) = equal-closed Y s S (omega (arith, closed-equal X r R C, bound p L F.base F.matched F.mate Y s tableau-pair S, least X s r S R))

-- where no end is reached from a free column, what is reached is a closed set
pub least_set : ℕ → LayeredMatrix → Tableau → ℕ → Bool
least_set p L F = reached (leads_to p L F) L.columns (is_free F)

pub least_set-closed : (p : ℕ) (L : LayeredMatrix) (F : Tableau) → HasNoWalk p L F → IsClosedIn p L F (least_set p L F)
unfolding least_set
least_set-closed p L F clear = least-closed (leads_to p L F) L.columns (is_free F) (is_end p L F) clear
