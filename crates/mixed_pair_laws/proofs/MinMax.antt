-- The min-max theorem: R(L) is the least p(X) + N, and a tableau's pair is best exactly where no end is reached from a free column.
use Rattle.std.proofs.Common.{◌≡◌, ◌+◌, ◌≤◌, ℕ, Bool, arith}
use Rattle.residue_theory.specs.Residues.{IsPrime}
use Rattle.residue_theory.specs.Sums.{size_on}
use Rattle.linear_algebra_laws.proofs.Ranks.{rank-unique}
use Rattle.closed_sets.proofs.ClosedLaws.{closed-from}
use Rattle.mixed_matrices.specs.Arcs.{HasNoWalk, IsClosedIn, is_end, is_free, leads_to}
use Rattle.mixed_matrices.specs.LayeredMatrices.{LayeredMatrix, layered_value}
use Rattle.mixed_matrices.specs.Pairs.{IsBest, pair_size}
use Rattle.mixed_matrices.specs.SetFunctions.{IsMinimiser, IsRho, gamma}
use Rattle.mixed_matrices.specs.StructuralRanks.{IsLayeredRank}
use Rattle.mixed_matrices.specs.Tableaus.{HasTableau, Tableau}
use Rattle.mixed_pair_laws.proofs.BestPairs.{Optimal, optimal, optimal-rank}
use Rattle.mixed_pair_laws.proofs.Minimisers.{equal-closed, tableau-pair}
use Rattle.mixed_pair_laws.proofs.PairBounds.{bound}
use Rattle.mixed_pair_laws.proofs.PairRank.{greatest-unique, rank-bound}

module _ (p : ℕ) (prime : IsPrime p) (L : LayeredMatrix) where
  -- R(L) is at most p(X) + N
  pub rank-at_most : (X : ℕ → Bool) (r R : ℕ) → IsRho p L X r → IsLayeredRank p L R → R + size_on X L.columns ≤ r + gamma L X + L.columns
  rank-at_most X r R K S = omega (arith, S.reached.1.reached.3, rank-bound p prime L X r K S.reached.0 S.reached.1.reached.0 S.reached.1.reached.2)

  -- a column set that reaches R(L) is a minimiser
  pub reached-minimiser : (X : ℕ → Bool) (r R : ℕ) → IsRho p L X r → IsLayeredRank p L R →
      R + size_on X L.columns ≡ r + gamma L X + L.columns → IsMinimiser p L X
  reached-minimiser X r R K S e Y s t M N = omega (arith, e, rank-unique p L.q L.q_rows L.columns X s r M K, rank-at_most Y t R N S)

  -- and each minimiser reaches it
  pub minimiser-reached : (X : ℕ → Bool) (r R : ℕ) → IsRho p L X r → IsLayeredRank p L R → IsMinimiser p L X →
      R + size_on X L.columns ≡ r + gamma L X + L.columns
  minimiser-reached X r R K S least = go (optimal p prime L)
    where
      go : Optimal p L → R + size_on X L.columns ≡ r + gamma L X + L.columns
      go O = omega (
        arith,
        O.equal,
        greatest-unique p (L.q_rows + L.t_rows) L.columns (layered_value L) R (pair_size L O.I O.J) S (optimal-rank p prime L O),
        least O.X r O.r K O.rank,
        rank-at_most X r R K S,
      )

  -- a tableau whose pair is best has no walk from a free column to an end
  pub best-clear : (F : Tableau) → HasTableau p L F → IsBest p L F.base F.matched → HasNoWalk p L F
  best-clear F tab best = go (optimal p prime L)
    where
      go : Optimal p L → HasNoWalk p L F
      go O e el eh f = closed.no_end e el (closed-from (leads_to p L F) L.columns (is_free F) (is_end p L F) O.X closed e el f) eh
        where
          closed : IsClosedIn p L F O.X
          closed = equal-closed p prime L F tab O.X O.r O.rank
              (omega (arith, O.equal, best O.I O.J O.mate O.pair, bound p L F.base F.matched F.mate O.X O.r (tableau-pair p prime L F tab) O.rank))
