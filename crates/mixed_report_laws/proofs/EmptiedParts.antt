-- A part of a layered matrix: its values, its rank, and a column set at which the bound is reached.
use Rattle.std.proofs.Common.{◌≡◌, ℕ, zero, suc, ◌+◌, ◌-◌, ◌%◌, ◌≤◌, Bool, true, false, cond, ltb, ◌&&◌, ◌||◌, refl, ap, ◌∙◌, arith}
use Rattle.residue_theory.proofs.SumLaws.{sum_on-same}
use Rattle.residue_theory.specs.Residues.{IsPrime}
use Rattle.residue_theory.specs.Sets.{both, everything, some_below}
use Rattle.residue_theory.specs.Sums.{size_on}
use Rattle.linear_algebra.specs.Columns.{IsRank}
use Rattle.linear_algebra.specs.Parts.{part}
use Rattle.linear_algebra_laws.proofs.Kernels.{kernel_of-agree, rank_of-kernel}
use Rattle.linear_algebra_laws.proofs.PartLaws.{part-rank}
use Rattle.linear_algebra_laws.proofs.Ranks.{rank_exists}
use Rattle.mixed_matrices.specs.LayeredMatrices.{LayeredMatrix, layered_part, layered_value}
use Rattle.mixed_matrices.specs.Pairs.{pair_size}
use Rattle.mixed_matrices.specs.SetFunctions.{IsRho, gamma, touches_set}
use Rattle.mixed_matrices.specs.StructuralRanks.{IsLayeredRank}
use Rattle.mixed_pair_laws.proofs.BestPairs.{Optimal, optimal, optimal-rank}
use Rattle.mixed_pair_laws.proofs.PairRank.{greatest-unique}

-- ---- a column set at which R(L) is reached
pub record LeastBound (p : ℕ) (L : LayeredMatrix) (R : ℕ) : Type 0 where
  pub X : ℕ → Bool
  pub rho : ℕ
  pub rank : IsRho p L X rho
  pub equal : R + size_on X L.columns ≡ rho + gamma L X + L.columns

pub least_bound : (p : ℕ) → IsPrime p → (L : LayeredMatrix) (R : ℕ) → IsLayeredRank p L R → LeastBound p L R
least_bound p prime L R K = go (optimal p prime L)
  where
    go : Optimal p L → LeastBound p L R
    go O = record {
      X = O.X;
      rho = O.r;
      rank = O.rank;
      equal = omega (
        arith,
        O.equal,
        greatest-unique p (L.q_rows + L.t_rows) L.columns (layered_value L) R (pair_size L O.I O.J) K
            (optimal-rank p prime L O),
      );
    }

-- ---- a part has at most the rank of the whole
module _ (p : ℕ) (prime : IsPrime p) (L : LayeredMatrix) (R D X : ℕ → Bool) where
  abbrev kept_rows : ℕ → Bool
  kept_rows i = cond (ltb i L.q_rows) (R i) (D (i - L.q_rows))

  layered_part-value : (w : ℕ → ℕ → ℕ) (i j : ℕ) → layered_value (layered_part R D X L) w i j ≡ part kept_rows X (layered_value L w) i j
  layered_part-value w i j = at (ltb i L.q_rows) (R i) (D (i - L.q_rows)) (X j) (L.t (i - L.q_rows) j) (L.q i j) (w (i - L.q_rows) j)
    where
      at : (b r d x t : Bool) (y z : ℕ) → cond b (cond (r && x) y 0) (cond (d && x && t) z 0) ≡ cond (cond b r d && x) (cond b y (cond t z 0)) 0
      at true r d x t y z = refl
      at false r true true t y z = refl
      at false r true false t y z = refl
      at false r false x t y z = refl

  pub layered_part-rank : (r s : ℕ) → IsLayeredRank p L r → IsLayeredRank p (layered_part R D X L) s → s ≤ r
  layered_part-rank r s K T = go (rank_exists p prime (layered_value L T.reached.0) (L.q_rows + L.t_rows) L.columns everything)
    where
      go : (t : ℕ) × IsRank p (layered_value L T.reached.0) (L.q_rows + L.t_rows) L.columns everything t → s ≤ r
      go (t, W) = omega (
        arith,
        K.greatest T.reached.0 t W,
        part-rank p prime (L.q_rows + L.t_rows) L.columns (layered_value L T.reached.0) kept_rows X everything t s W
            (rank_of-kernel p (L.q_rows + L.t_rows) L.columns (layered_value (layered_part R D X L) T.reached.0)
            (part kept_rows X (layered_value L T.reached.0)) everything s
            (kernel_of-agree p (L.q_rows + L.t_rows) L.columns (layered_value (layered_part R D X L) T.reached.0)
            (part kept_rows X (layered_value L T.reached.0))
            (λ i j _ _. ap (λ y. y % p) (layered_part-value T.reached.0 i j))) T.reached.1),
      )

-- ---- what touches a row
some_below-same : (n : ℕ) (X Y : ℕ → Bool) → ((j : ℕ) → X j ≡ Y j) → some_below n X ≡ some_below n Y
some_below-same zero X Y same = refl
some_below-same (suc n) X Y same = ap (λ b. b || X n) (some_below-same n X Y same) ∙ ap (λ b. some_below n Y || b) (same n)

-- in the part of the columns C, X touches what the columns of both touch in the whole
pub gamma-columns : (L : LayeredMatrix) (C X : ℕ → Bool) → gamma (layered_part everything everything C L) X ≡ gamma L (both X C)
gamma-columns L C X = sum_on-same (touches_set (layered_part everything everything C L) X) (touches_set L (both X C)) L.t_rows (λ _. 1)
    (λ i _. some_below-same L.columns (both X ((layered_part everything everything C L).t i)) (both (both X C) (L.t i))
    (λ j. moved (X j) (C j) (L.t i j)))
  where
    moved : (x c t : Bool) → x && (true && c && t) ≡ (x && c) && t
    moved x c t = grind arith

pub gamma-same_set : (L : LayeredMatrix) (X Y : ℕ → Bool) → ((j : ℕ) → X j ≡ Y j) → gamma L X ≡ gamma L Y
gamma-same_set L X Y same = sum_on-same (touches_set L X) (touches_set L Y) L.t_rows (λ _. 1)
    (λ i _. some_below-same L.columns (both X (L.t i)) (both Y (L.t i)) (λ j. ap (λ b. b && L.t i j) (same j)))
