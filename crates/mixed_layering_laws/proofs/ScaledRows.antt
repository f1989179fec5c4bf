-- T rows scaled: the kernel stays, and values that are not zero at the auxiliary places become -1 there.
use Rattle.std.proofs.Common.{◌≡◌, ℕ, ◌+◌, ◌*◌, ◌%◌, ◌<◌, ◌≢◌, Bool, true, false, cond, refl, ap, sym, subst, ◌∙◌, arith}
use Rattle.std.proofs.Math.Nat.{mod-eq_of_lt}
use Rattle.residue_theory.proofs.ResidueLaws.{HasNegativeInverse, agree-mul, agree-sum, negative_inverse, vanishes-mul}
use Rattle.residue_theory.proofs.ResidueLaws.{vanishes-rest, vanishes_by, vanishes_factor}
use Rattle.residue_theory.proofs.SetLaws.{both-first, both_true, choose, differ}
use Rattle.residue_theory.proofs.SumLaws.{sum_on-mul}
use Rattle.residue_theory.specs.Residues.{IsPrime}
use Rattle.residue_theory.specs.Sets.{both}
use Rattle.residue_theory.specs.Sums.{size_on, sum_on}
use Rattle.linear_algebra.specs.Kernels.{SameKernel}
use Rattle.linear_algebra_laws.proofs.Stacked.{above-zero, low-zero, top-zero}
use Rattle.mixed_matrices.specs.LayeredMatrices.{LayeredMatrix, layered_value}
use Rattle.mixed_matrices.specs.Layerings.{IsLayering, Origins}
use Rattle.mixed_matrices.specs.Models.{MixedMatrix, numbers}
use Rattle.mixed_layering_laws.proofs.Members.{member-at, member-index}
use Rattle.mixed_layering_laws.specs.LayeredValues.{AreFreeOfZeros, AreScaledValues, AreValuesFor}

-- a number from 1 to p - 1 is not zero
pub small : (p x : ℕ) → 0 < x → x < p → x % p ≢ 0
small p x pos less z = bad (x % p) z (mod-eq_of_lt less)
  where
    bad : (y : ℕ) → y ≡ 0 → y ≡ x → ⊥
    bad y a b = omega arith

module _ (p : ℕ) (prime : IsPrime p) (L : LayeredMatrix) (f : ℕ → ℕ) (w u : ℕ → ℕ → ℕ) (scaled : AreScaledValues p L f w u) where
  entry : (i j : ℕ) → i < L.t_rows → j < L.columns → numbers L.t u i j % p ≡ f i * numbers L.t w i j % p
  entry i j il jl = go (L.t i j) refl
    where
      go : (b : Bool) → L.t i j ≡ b → cond b (u i j) 0 % p ≡ f i * cond b (w i j) 0 % p
      go true e = scaled.symbol i j il jl e
      go false e = ap (λ s. s % p) (let z : 0 ≡ f i * 0 = omega arith in z)

  row : (X : ℕ → Bool) (c : ℕ → ℕ) (i : ℕ) → i < L.t_rows →
      sum_on X L.columns (λ j. c j * numbers L.t u i j) % p ≡ f i * sum_on X L.columns (λ j. c j * numbers L.t w i j) % p
  row X c i il =
      agree-sum p X L.columns (λ j. c j * numbers L.t u i j) (λ j. f i * (c j * numbers L.t w i j))
      (λ j jl _. agree-mul p (c j) (numbers L.t u i j) (f i * numbers L.t w i j) (entry i j il jl)
      ∙ ap (λ s. s % p) (turned (c j) (f i) (numbers L.t w i j)))
      ∙ ap (λ s. s % p) (sum_on-mul X L.columns (f i) (λ j. c j * numbers L.t w i j))
    where
      turned : (x y z : ℕ) → x * (y * z) ≡ y * (x * z)
      turned x y z = omega arith

  pub scaled-kernel : SameKernel p (L.q_rows + L.t_rows) L.columns (layered_value L w) (layered_value L u)
  scaled-kernel = record {
    forward = λ X c z. above-zero p L.q_rows L.t_rows L.columns L.q (numbers L.t u) X c
        (top-zero p L.q_rows L.t_rows L.columns L.q (numbers L.t w) X c z)
        (λ i il. row X c i il ∙ vanishes-mul p (f i) (sum_on X L.columns (λ j. c j * numbers L.t w i j))
        (low-zero p L.q_rows L.t_rows L.columns L.q (numbers L.t w) X c z i il));
    back = λ X c z. above-zero p L.q_rows L.t_rows L.columns L.q (numbers L.t w) X c
        (top-zero p L.q_rows L.t_rows L.columns L.q (numbers L.t u) X c z)
        (λ i il. vanishes_factor p prime (f i) (sum_on X L.columns (λ j. c j * numbers L.t w i j)) (scaled.not_zero i il)
        (sym (row X c i il) ∙ low-zero p L.q_rows L.t_rows L.columns L.q (numbers L.t u) X c z i il));
  }

-- ---- each T row scaled by what makes its auxiliary value -1
module _ (p : ℕ) (prime : IsPrime p) (M : MixedMatrix) (A D : ℕ → Bool) (L : LayeredMatrix) (O : Origins) (lay : IsLayering M A D L O) (w : ℕ → ℕ → ℕ)
    (free : AreFreeOfZeros p M L O w) where
  abbrev Scales : ℕ → ℕ → Type 0
  Scales i x = (x % p ≢ 0) × ((k : ℕ) → k < O.split → O.of_t i ≡ O.of_z k → (x * w i (M.columns + k) + 1) % p ≡ 0)

  scale : (i : ℕ) → i < L.t_rows → (x : ℕ) × Scales i x
  scale i il = go (A (O.of_t i)) refl
    where
      go : (b : Bool) → A (O.of_t i) ≡ b → (x : ℕ) × Scales i x
      go false e = (
        1,
        (
          small p 1 (omega arith) prime.above_one,
          λ k kl q. absurd (differ (subst (λ x. A x ≡ false) q e) (both-first (A (O.of_z k)) (D (O.of_z k)) (lay.auxiliary.member k kl))),
        ),
      )
      go true e = found (negative_inverse p prime (w i (M.columns + size_on (both A D) (O.of_t i)))
          (free i (size_on (both A D) (O.of_t i)) il place origin))
        where
          here : both A D (O.of_t i) ≡ true
          here = both_true (A (O.of_t i)) (D (O.of_t i)) e (lay.t_rows.member i il)

          place : size_on (both A D) (O.of_t i) < O.split
          place = member-index (both A D) M.rows O.of_z O.split lay.auxiliary (O.of_t i) (lay.t_rows.below i il) here

          origin : O.of_t i ≡ O.of_z (size_on (both A D) (O.of_t i))
          origin = sym (member-at (both A D) M.rows O.of_z O.split lay.auxiliary (O.of_t i) (lay.t_rows.below i il) here)

          found : HasNegativeInverse p (w i (M.columns + size_on (both A D) (O.of_t i))) → (x : ℕ) × Scales i x
          found (x, h) = (
            x,
            (
              (λ z. small p 1 (omega arith) prime.above_one
                  (vanishes-rest p (w i (M.columns + size_on (both A D) (O.of_t i)) * x) 1 h
                  (vanishes-mul p (w i (M.columns + size_on (both A D) (O.of_t i))) x z))),
              λ k kl q. subst (λ t. (x * w i (M.columns + t) + 1) % p ≡ 0) (ap (λ e. size_on (both A D) e) q ∙ lay.auxiliary.place k kl)
                  (vanishes_by p _ (w i (M.columns + size_on (both A D) (O.of_t i)) * x + 1) (omega arith) h),
            ),
          )

  pub minus_ones : (f : ℕ → ℕ) × (u v : ℕ → ℕ → ℕ) × AreScaledValues p L f w u × AreValuesFor p M L O v u
  minus_ones = go (choose L.t_rows ℕ 1 Scales scale)
    where
      go : (f : ℕ → ℕ) × ((i : ℕ) → i < L.t_rows → Scales i (f i)) → (f : ℕ → ℕ) ×
          (u v : ℕ → ℕ → ℕ) × AreScaledValues p L f w u × AreValuesFor p M L O v u
      go (f, ok) = (
        f,
        (λ i j. f i * w i j),
        (λ e j. f (size_on D e) * w (size_on D e) j),
        record { not_zero = λ i il. (ok i il).0; symbol = λ i j il jl h. refl },
        record {
          unknown = λ i j il jl. ap (λ k. f k * w k j % p) (sym (lay.t_rows.place i il));
          auxiliary = λ i k il kl q. (ok i il).1 k kl q;
        },
      )
