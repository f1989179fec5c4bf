-- R(L) = R(M) + s.
use Rattle.std.proofs.Common.{◌≡◌, ℕ, ◌+◌, ◌-◌, ◌%◌, ◌<◌, ◌≤◌, ◌≢◌, Bool, true, false, cond, inl, inr, refl, ap, sym, subst, ◌∙◌, arith}
use Rattle.std.proofs.Math.Nat.{mod_self}
use Rattle.residue_theory.proofs.ResidueLaws.{agree_of}
use Rattle.residue_theory.proofs.SetLaws.{eqb_true, lt_cases}
use Rattle.residue_theory.specs.Residues.{IsPrime}
use Rattle.residue_theory.specs.Sets.{everything}
use Rattle.linear_algebra.specs.Columns.{IsIndependent, IsRank}
use Rattle.linear_algebra.specs.Products.{Agree}
use Rattle.linear_algebra_laws.proofs.Entries.{above-low, above-top}
use Rattle.linear_algebra_laws.proofs.Kernels.{independent_of-kernel, kernel_of-agree, rank_of-kernel}
use Rattle.linear_algebra_laws.proofs.Ranks.{rank-unique, rank_exists}
use Rattle.mixed_matrices.specs.LayeredMatrices.{LayeredMatrix, layered_value}
use Rattle.mixed_matrices.specs.Layerings.{IsLayeredMatrixOf, IsLayering, Origins, gives_q, has_symbol}
use Rattle.mixed_matrices.specs.Models.{MixedMatrix, numbers, value}
use Rattle.mixed_matrices.specs.StructuralRanks.{IsLayeredRank, IsStructuralRank}
use Rattle.mixed_pair_laws.proofs.GreatestRanks.{mixed-rank_exists}
use Rattle.mixed_pair_laws.proofs.PairRank.{greatest-unique}
use Rattle.mixed_layering_laws.proofs.ChangedValues.{layered-ones_and_twos}
use Rattle.mixed_layering_laws.proofs.LayeredKernels.{layered_values, layering-rank, ltb-first, ltb-next}
use Rattle.mixed_layering_laws.proofs.ScaledRows.{minus_ones, scaled-kernel, small}
use Rattle.mixed_layering_laws.specs.LayeredValues.{AreScaledValues, AreValuesFor, IsOneOrTwo}

module _ (p : ℕ) (prime : IsPrime p) (M : MixedMatrix) (A D : ℕ → Bool) (L : LayeredMatrix) (O : Origins) (lay : IsLayering M A D L O) where
  -- ---- any values that stand for v
  module _ (v w : ℕ → ℕ → ℕ) (values : AreValuesFor p M L O v w) where
    unknown-entry : (i j : ℕ) → i < L.t_rows → j < M.columns → numbers L.t (layered_values p M O v) i j % p ≡ numbers L.t w i j % p
    unknown-entry i j il jl = go (L.t i j)
      where
        go : (b : Bool) → cond b (layered_values p M O v i j) 0 % p ≡ cond b (w i j) 0 % p
        go true = ap (λ b. cond b (v (O.of_t i) j) (p - 1) % p) (ltb-first M.columns j jl) ∙ sym (values.unknown i j il jl)
        go false = refl

    auxiliary-entry : (i k : ℕ) → i < L.t_rows → k < O.split → numbers L.t (layered_values p M O v) i (M.columns + k) % p ≡ numbers L.t w i
        (M.columns + k) % p
    auxiliary-entry i k il kl = go (L.t i (M.columns + k)) refl
      where
        go : (b : Bool) → L.t i (M.columns + k) ≡ b → cond b (layered_values p M O v i (M.columns + k)) 0 % p ≡ cond b (w i (M.columns + k)) 0 % p
        go true e = ap (λ b. cond b (v (O.of_t i) (M.columns + k)) (p - 1) % p) (ltb-next M.columns k)
            ∙ agree_of p (p - 1) 1 (w i (M.columns + k)) (ap (λ s. s % p) (let q : p - 1 + 1 ≡ p = omega (arith, prime.above_one) in q) ∙ mod_self p)
            (values.auxiliary i k il kl (eqb_true (O.of_t i) (O.of_z k) (sym (lay.t_auxiliary i k il kl) ∙ e)))
        go false e = refl

    low-entry : (i j : ℕ) → i < L.t_rows → j < L.columns → numbers L.t (layered_values p M O v) i j % p ≡ numbers L.t w i j % p
    low-entry i j il jl = elim (lt_cases j M.columns) [
      | inl unknown ↦ unknown-entry i j il unknown
      | inr more ↦ subst (λ k. numbers L.t (layered_values p M O v) i k % p ≡ numbers L.t w i k % p)
          (let q : M.columns + (j - M.columns) ≡ j = omega arith in q)
          (auxiliary-entry i (j - M.columns) il (omega (arith, lay.columns)))
    ]

    values-agree : Agree p (L.q_rows + L.t_rows) L.columns (layered_value L (layered_values p M O v)) (layered_value L w)
    values-agree i j il jl = elim (lt_cases i L.q_rows) [
      | inl top ↦ ap (λ s. s % p) (above-top L.q_rows L.q (numbers L.t (layered_values p M O v)) i j top
          ∙ sym (above-top L.q_rows L.q (numbers L.t w) i j top))
      | inr more ↦ subst (λ k. layered_value L (layered_values p M O v) k j % p ≡ layered_value L w k j % p)
          (let q : L.q_rows + (i - L.q_rows) ≡ i = omega arith in q)
          (ap (λ s. s % p) (above-low L.q_rows L.q (numbers L.t (layered_values p M O v)) (i - L.q_rows) j)
          ∙ low-entry (i - L.q_rows) j (omega arith) jl ∙ ap (λ s. s % p) (sym (above-low L.q_rows L.q (numbers L.t w) (i - L.q_rows) j)))
    ]

    pub values-rank : (r : ℕ) → IsRank p (value M v) M.rows M.columns everything r → IsRank p (layered_value L w)
        (L.q_rows + L.t_rows) L.columns everything (r + O.split)
    values-rank r R = rank_of-kernel p (L.q_rows + L.t_rows) L.columns (layered_value L (layered_values p M O v)) (layered_value L w) everything
        (r + O.split)
        (kernel_of-agree p (L.q_rows + L.t_rows) L.columns (layered_value L (layered_values p M O v)) (layered_value L w) values-agree)
        (layering-rank p prime M A D L O lay v r R)

    pub rank-values : (r : ℕ) → IsRank p (layered_value L w) (L.q_rows + L.t_rows) L.columns everything (r + O.split) → IsRank p
        (value M v) M.rows M.columns everything r
    rank-values r R = go (rank_exists p prime (value M v) M.rows M.columns everything)
      where
        go : (s : ℕ) × IsRank p (value M v) M.rows M.columns everything s → IsRank p (value M v) M.rows M.columns everything r
        go (s, S) = subst (λ k. IsRank p (value M v) M.rows M.columns everything k)
            (let q : s + O.split ≡ r + O.split = rank-unique p (layered_value L w) (L.q_rows + L.t_rows) L.columns everything (s + O.split)
            (r + O.split) (values-rank s S) R in omega arith) S

  -- ---- values of the model that reach the rank of a value of the layered matrix
  pub reached-values : 2 < p → (w : ℕ → ℕ → ℕ) (t : ℕ) → IsRank p (layered_value L w) (L.q_rows + L.t_rows) L.columns everything t →
      (v : ℕ → ℕ → ℕ) × (r : ℕ) × IsRank p (value M v) M.rows M.columns everything r × (t ≤ r + O.split)
  reached-values big w t T = ones (layered-ones_and_twos p prime L T.reached.0 w T.reached.2)
    where
      Reached : Type 0
      Reached = (v : ℕ → ℕ → ℕ) × (r : ℕ) × IsRank p (value M v) M.rows M.columns everything r × (t ≤ r + O.split)

      not_zero : (x : ℕ) → IsOneOrTwo x → x % p ≢ 0
      not_zero x (inl q) = subst (λ y. y % p ≢ 0) (sym q) (small p 1 (omega arith) (omega arith))
      not_zero x (inr q) = subst (λ y. y % p ≢ 0) (sym q) (small p 2 (omega arith) big)

      ranked : (u v : ℕ → ℕ → ℕ) → IsIndependent p (layered_value L u) (L.q_rows + L.t_rows) L.columns T.reached.0 → AreValuesFor p M L O v u →
          (r : ℕ) × IsRank p (value M v) M.rows M.columns everything r → Reached
      ranked u v ind values (r, R) = (v, r, R, omega (arith, T.reached.3, (values-rank v u values r R).greatest T.reached.0 (λ _ _ _. refl) ind))

      scaled : (w1 : ℕ → ℕ → ℕ) → IsIndependent p (layered_value L w1) (L.q_rows + L.t_rows) L.columns T.reached.0 → (f : ℕ → ℕ) ×
          (u v : ℕ → ℕ → ℕ) × AreScaledValues p L f w1 u × AreValuesFor p M L O v u → Reached
      scaled w1 ind (f, u, v, by, values) = ranked u v (independent_of-kernel p (L.q_rows + L.t_rows) L.columns (layered_value L w1)
          (layered_value L u) T.reached.0 (scaled-kernel p prime L f w1 u by) ind) values
          (rank_exists p prime (value M v) M.rows M.columns everything)

      ones : (w1 : ℕ → ℕ → ℕ) × IsIndependent p (layered_value L w1) (L.q_rows + L.t_rows) L.columns T.reached.0 ×
          ((i j : ℕ) → i < L.t_rows → j < L.columns → IsOneOrTwo (w1 i j)) → Reached
      ones (w1, ind, small_values) = scaled w1 ind (minus_ones p prime M A D L O lay w1
          (λ i k il kl _. not_zero (w1 i (M.columns + k)) (small_values i (M.columns + k) il (omega (arith, lay.columns)))))

  -- R(L) = R(M) + s
  pub layering-law : 2 < p → (r : ℕ) → IsStructuralRank p M r → IsLayeredRank p L (r + O.split)
  layering-law big r R = record {
    reached = (layered_values p M O R.reached.0, layering-rank p prime M A D L O lay R.reached.0 r R.reached.1);
    greatest = λ w t T. go t (reached-values big w t T);
  }
    where
      go : (t : ℕ) → (v : ℕ → ℕ → ℕ) × (s : ℕ) × IsRank p (value M v) M.rows M.columns everything s × (t ≤ s + O.split) → t ≤ r + O.split
      go t (v, s, S, le) = omega (arith, le, R.greatest v s S)

  -- and where R(L) is known, R(M) is
  pub layering-back : 2 < p → (t : ℕ) → IsLayeredRank p L t → (r : ℕ) × IsStructuralRank p M r × (t ≡ r + O.split)
  layering-back big t T = go (mixed-rank_exists p prime M)
    where
      go : (r : ℕ) × IsStructuralRank p M r → (r : ℕ) × IsStructuralRank p M r × (t ≡ r + O.split)
      go (r, R) = (r, R, greatest-unique p (L.q_rows + L.t_rows) L.columns (layered_value L) t (r + O.split) T (layering-law big r R))

  pub law-layering : 2 < p → (r : ℕ) → IsLayeredRank p L (r + O.split) → IsStructuralRank p M r
  law-layering big r T = go (layering-back big (r + O.split) T)
    where
      go : (s : ℕ) × IsStructuralRank p M s × (r + O.split ≡ s + O.split) → IsStructuralRank p M r
      go (s, S, q) = subst (λ k. IsStructuralRank p M k) (omega (arith, q)) S

-- the rank of a model, from that of its layered matrix
pub model_rank : (p : ℕ) → IsPrime p → 2 < p → (M : MixedMatrix) (L : LayeredMatrix) (O : Origins) → IsLayeredMatrixOf M L O → (t : ℕ) → IsLayeredRank p L t →
    IsStructuralRank p M (t - O.split) × (O.split ≤ t)
model_rank p prime big M L O lay t T = go (layering-back p prime M (gives_q M) (has_symbol M) L O lay big t T)
  where
    go : (r : ℕ) × IsStructuralRank p M r × (t ≡ r + O.split) → IsStructuralRank p M (t - O.split) × (O.split ≤ t)
    go (r, R, q) = (subst (λ k. IsStructuralRank p M k) (let e : r ≡ t - O.split = omega (arith, q) in e) R, omega (arith, q))
