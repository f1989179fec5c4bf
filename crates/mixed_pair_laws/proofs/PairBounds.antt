-- No pair is larger than p(X) + N, for any column set X: each of the three counts of the pair at X is bounded alone.
use Rattle.std.proofs.Common.{◌+◌, ◌≤◌, ℕ, Bool, arith}
use Rattle.residue_theory.proofs.CountLaws.{counts, size-injection}
use Rattle.residue_theory.proofs.SetLaws.{both-first, both-second, both_true, some_below-holds}
use Rattle.residue_theory.specs.Sets.{both}
use Rattle.residue_theory.specs.Sums.{size_on}
use Rattle.linear_algebra_laws.proofs.Ranks.{independent-within}
use Rattle.mixed_matrices.specs.LayeredMatrices.{LayeredMatrix}
use Rattle.mixed_matrices.specs.Pairs.{IsMatching, IsPair, pair_size}
use Rattle.mixed_matrices.specs.SetFunctions.{IsRho, gamma, touches_set}

-- the matched columns of X are no more than the rows that X touches
pub matched-count : (L : LayeredMatrix) (J : ℕ → Bool) (mate : ℕ → ℕ) (X : ℕ → Bool) → IsMatching L J mate → size_on (both J X) L.columns ≤ gamma L X
matched-count L J mate X match = size-injection (both J X) L.columns mate L.t_rows (touches_set L X)
    (λ a l h. match.below a l (both-first (J a) (X a) h))
    (λ a l h. some_below-holds L.columns (both X (L.t (mate a))) a l
    (both_true (X a) (L.t (mate a) a) (both-second (J a) (X a) h) (match.symbol a l (both-first (J a) (X a) h))))
    (λ a b l r h k q. match.distinct a b l r (both-first (J a) (X a) h) (both-first (J b) (X b) k) q)

pub bound : (p : ℕ) (L : LayeredMatrix) (I J : ℕ → Bool) (mate : ℕ → ℕ) (X : ℕ → Bool) (r : ℕ) → IsPair p L I J mate → IsRho p L X r →
    pair_size L I J + size_on X L.columns ≤ r + gamma L X + L.columns
bound p L I J mate X r pair R = omega (arith, counts I J X L.columns pair.apart, base_count, matched-count L J mate X pair.matching)
  where
    base_count : size_on (both I X) L.columns ≤ r
    base_count = R.greatest (both I X) (λ j l h. both-second (I j) (X j) h)
        (independent-within p L.q L.q_rows L.columns (both I X) I (λ j l h. both-first (I j) (X j) h) pair.independent)
