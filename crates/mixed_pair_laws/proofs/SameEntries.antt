-- Models, and layered matrices, with the same entries at their places have the same structural rank.
use Rattle.std.proofs.Common.{◌≡◌, ◌+◌, ◌-◌, ◌%◌, ◌<◌, ◌∙◌, ℕ, Bool, cond, inl, inr, ap, sym, subst, arith}
use Rattle.residue_theory.proofs.ResidueLaws.{agree-add}
use Rattle.residue_theory.proofs.SetLaws.{lt_cases}
use Rattle.residue_theory.specs.Sets.{everything}
use Rattle.linear_algebra.specs.Products.{Agree}
use Rattle.linear_algebra_laws.proofs.Entries.{above-low, above-top}
use Rattle.linear_algebra_laws.proofs.Kernels.{kernel-sym, kernel_of-agree, rank_of-kernel}
use Rattle.mixed_matrices.specs.LayeredMatrices.{AreSameLayers, LayeredMatrix, layered_value}
use Rattle.mixed_matrices.specs.Models.{AreSameModels, MixedMatrix, numbers, value}
use Rattle.mixed_matrices.specs.StructuralRanks.{IsGreatestRank, IsLayeredRank, IsStructuralRank}
use Rattle.mixed_pair_laws.proofs.RemovedRows.{greatest-moved}

-- families whose matrices agree
greatest-same : (p m n : ℕ) (at to : (ℕ → ℕ → ℕ) → ℕ → ℕ → ℕ) → ((w : ℕ → ℕ → ℕ) → Agree p m n (at w) (to w)) →
    (r : ℕ) → IsGreatestRank p m n at r → IsGreatestRank p m n to r
greatest-same p m n at to same = greatest-moved p m n m n at to
    (λ w r R. (w, rank_of-kernel p m n (at w) (to w) everything r (kernel_of-agree p m n (at w) (to w) (same w)) R))
    (λ w r R. (w, rank_of-kernel p m n (to w) (at w) everything r (kernel-sym p m n (at w) (to w) (kernel_of-agree p m n (at w) (to w) (same w))) R))

numbers-same : (s t : ℕ → ℕ → Bool) (w : ℕ → ℕ → ℕ) (i j : ℕ) → s i j ≡ t i j → numbers s w i j ≡ numbers t w i j
numbers-same s t w i j e = ap (λ b. cond b (w i j) 0) e

pub same-model : (p : ℕ) (M N : MixedMatrix) → AreSameModels p M N → (r : ℕ) → IsStructuralRank p M r → IsStructuralRank p N r
same-model p M N same r R = subst (λ m. IsGreatestRank p m N.columns (value N) r) same.rows (subst (λ n. IsGreatestRank p M.rows n (value N) r) same.columns
    (greatest-same p M.rows M.columns (value M) (value N)
    (λ v i j il jl. agree-add p (M.constant i j) (N.constant i j) (numbers M.symbol v i j) (numbers N.symbol v i j)
    (same.constants i j il jl) (ap (λ x. x % p) (numbers-same M.symbol N.symbol v i j (same.symbols i j il jl)))) r R))

pub same-layers : (p : ℕ) (L K : LayeredMatrix) → AreSameLayers p L K → (r : ℕ) → IsLayeredRank p L r → IsLayeredRank p K r
same-layers p L K same r R = subst (λ m. IsGreatestRank p m K.columns (layered_value K) r)
    (let q : L.q_rows + L.t_rows ≡ K.q_rows + K.t_rows = omega (arith, same.q_rows, same.t_rows) in q)
    (subst (λ n. IsGreatestRank p (L.q_rows + L.t_rows) n (layered_value K) r) same.columns
    (greatest-same p (L.q_rows + L.t_rows) L.columns (layered_value L) (layered_value K) agrees r R))
  where
    low : (w : ℕ → ℕ → ℕ) (k j : ℕ) → k < L.t_rows → j < L.columns → layered_value L w (L.q_rows + k) j % p ≡ layered_value K w (L.q_rows + k) j % p
    low w k j kl jl = ap (λ x. x % p)
        (above-low L.q_rows L.q (numbers L.t w) k j ∙ numbers-same L.t K.t w k j (same.t k j kl jl)
        ∙ sym (above-low K.q_rows K.q (numbers K.t w) k j))
        ∙ ap (λ m. layered_value K w (m + k) j % p) (sym same.q_rows)

    agrees : (w : ℕ → ℕ → ℕ) → Agree p (L.q_rows + L.t_rows) L.columns (layered_value L w) (layered_value K w)
    agrees w i j il jl = elim (lt_cases i L.q_rows) [
      | inl top ↦ ap (λ x. x % p) (above-top L.q_rows L.q (numbers L.t w) i j top) ∙ same.q i j top jl
          ∙ ap (λ x. x % p) (sym (above-top K.q_rows K.q (numbers K.t w) i j (omega (arith, same.q_rows))))
      | inr more ↦ subst (λ k. layered_value L w k j % p ≡ layered_value K w k j % p) (let q : L.q_rows + (i - L.q_rows) ≡ i = omega arith in q)
          (low w (i - L.q_rows) j (omega arith) jl)
    ]
