-- Every model has a layered matrix, for each choice of rows that leaves no entry out.
use Rattle.std.proofs.Common.{◌≡◌, ℕ, zero, suc, ◌+◌, ◌-◌, ◌<◌, Bool, true, false, cond, eqb, ltb, not, ◌⊎◌, ◌≢◌, inl, inr, refl, ap, sym, ◌∙◌, arith}
use Rattle.std.proofs.lemmas.Bool.Decides.{nat_tests}
use Rattle.residue_theory.proofs.SetLaws.{choose, differ, either-first, not_true, some_below-holds, zero_cases}
use Rattle.residue_theory.proofs.SumLaws.{nat_cases}
use Rattle.residue_theory.specs.Sets.{both}
use Rattle.residue_theory.specs.Sums.{size_on}
use Rattle.mixed_matrices.specs.LayeredMatrices.{LayeredMatrix}
use Rattle.mixed_matrices.specs.Layerings.{AreMembers, IsLayeredMatrixOf, IsLayering, Origins, gives_q, has_constant, has_symbol}
use Rattle.mixed_matrices.specs.Models.{MixedMatrix}
use Rattle.mixed_pair_laws.proofs.DroppedSymbols.{symbols}
use Rattle.mixed_layering_laws.proofs.LayeredKernels.{ltb-first, ltb-next}

-- ---- the members of a set, listed
abbrev IsPlace : (ℕ → Bool) → ℕ → ℕ → ℕ → Type 0
IsPlace A n k j = (j < n) × (A j ≡ true) × (size_on A j ≡ k)

member_of : (A : ℕ → Bool) (n k : ℕ) → k < size_on A n → (j : ℕ) × IsPlace A n k j
member_of A zero k kl = absurd (omega arith)
member_of A (suc n) k kl = go (A n) refl (nat_cases k (size_on A n)) (member_of A n k)
  where
    earlier : (j : ℕ) × IsPlace A n k j → (j : ℕ) × IsPlace A (suc n) k j
    earlier (j, (jl, h, q)) = (j, (omega (arith, jl), h, q))

    go : (b : Bool) → A n ≡ b → (k ≡ size_on A n) ⊎ (k ≢ size_on A n) → (k < size_on A n → (j : ℕ) × IsPlace A n k j) → (j : ℕ) × IsPlace A
        (suc n) k j
    go true h (inl q) ih = (n, (omega arith, h, sym q))
    go true h (inr ne) ih = earlier (ih (counted (A n) h kl))
      where
        counted : (b : Bool) → b ≡ true → k < size_on A n + cond b 1 0 → k < size_on A n
        counted b e l = grind (arith, ne)
    go false h c ih = earlier (ih (uncounted (A n) h kl))
      where
        uncounted : (b : Bool) → b ≡ false → k < size_on A n + cond b 1 0 → k < size_on A n
        uncounted b e l = grind arith

members_exist : (A : ℕ → Bool) (n : ℕ) → (at : ℕ → ℕ) × AreMembers A n at (size_on A n)
members_exist A n = go (choose (size_on A n) ℕ 0 (IsPlace A n) (member_of A n))
  where
    go : (at : ℕ → ℕ) × ((k : ℕ) → k < size_on A n → IsPlace A n k (at k)) → (at : ℕ → ℕ) × AreMembers A n at (size_on A n)
    go (at, ok) = (at, record { count = refl; below = λ k l. (ok k l).0; member = λ k l. (ok k l).1; place = λ k l. (ok k l).2 })

-- ---- a layering
module _ (M : MixedMatrix) (A D : ℕ → Bool) (constants : (i j : ℕ) → i < M.rows → j < M.columns → A i ≡ false → M.constant i j ≡ 0)
    (symbols : (i j : ℕ) → i < M.rows → j < M.columns → D i ≡ false → M.symbol i j ≡ false) (of_q of_t of_z : ℕ → ℕ) where
  abbrev origins : Origins
  origins = record { of_q = of_q; of_t = of_t; of_z = of_z; split = size_on (both A D) M.rows }

  abbrev layers : LayeredMatrix
  layers = record {
    q_rows = size_on A M.rows;
    t_rows = size_on D M.rows;
    columns = M.columns + size_on (both A D) M.rows;
    q = λ i j. cond (ltb j M.columns) (M.constant (of_q i) j) (cond (eqb (of_q i) (of_z (j - M.columns))) 1 0);
    t = λ i j. cond (ltb j M.columns) (M.symbol (of_t i) j) (eqb (of_t i) (of_z (j - M.columns)));
  }

  past : (k : ℕ) → M.columns + k - M.columns ≡ k
  past k = omega arith

  is_layering : AreMembers A M.rows of_q (size_on A M.rows) → AreMembers D M.rows of_t (size_on D M.rows) → AreMembers (both A D) M.rows of_z
      (size_on (both A D) M.rows) →
      IsLayering M A D layers origins
  is_layering q t z = record {
    constants = constants;
    symbols = symbols;
    q_rows = q;
    t_rows = t;
    auxiliary = z;
    columns = refl;
    q = λ i j il jl. ap (λ b. cond b (M.constant (of_q i) j) (cond (eqb (of_q i) (of_z (j - M.columns))) 1 0)) (ltb-first M.columns j jl);
    q_auxiliary = λ i k il kl. ap (λ b. cond b (M.constant (of_q i) (M.columns + k)) (cond (eqb (of_q i) (of_z (M.columns + k - M.columns))) 1 0))
        (ltb-next M.columns k)
        ∙ ap (λ x. cond (eqb (of_q i) (of_z x)) 1 0) (past k);
    t = λ i j il jl. ap (λ b. cond b (M.symbol (of_t i) j) (eqb (of_t i) (of_z (j - M.columns)))) (ltb-first M.columns j jl);
    t_auxiliary = λ i k il kl. ap (λ b. cond b (M.symbol (of_t i) (M.columns + k)) (eqb (of_t i) (of_z (M.columns + k - M.columns))))
        (ltb-next M.columns k)
        ∙ ap (λ x. eqb (of_t i) (of_z x)) (past k);
  }

layering_exists : (M : MixedMatrix) (A D : ℕ → Bool) → ((i j : ℕ) → i < M.rows → j < M.columns → A i ≡ false → M.constant i j ≡ 0) →
    ((i j : ℕ) → i < M.rows → j < M.columns → D i ≡ false → M.symbol i j ≡ false) → (L : LayeredMatrix) × (O : Origins) × IsLayering M A D L O
layering_exists M A D constants symbols = go (members_exist A M.rows) (members_exist D M.rows) (members_exist (both A D) M.rows)
  where
    go : (at : ℕ → ℕ) × AreMembers A M.rows at (size_on A M.rows) → (at : ℕ → ℕ) × AreMembers D M.rows at (size_on D M.rows) →
        (at : ℕ → ℕ) × AreMembers (both A D) M.rows at (size_on (both A D) M.rows) → (L : LayeredMatrix) × (O : Origins) × IsLayering M A D L O
    go (of_q, q) (of_t, t) (of_z, z) = (
      layers M A D constants symbols of_q of_t of_z,
      origins M A D constants symbols of_q of_t of_z,
      is_layering M A D constants symbols of_q of_t of_z q t z,
    )

pub layered_matrix_exists : (M : MixedMatrix) → (L : LayeredMatrix) × (O : Origins) × IsLayeredMatrixOf M L O
layered_matrix_exists M = layering_exists M (gives_q M) (has_symbol M)
    (λ i j il jl h. no_constant (M.constant i j) (λ e. differ h
    (either-first (has_constant M i) (not (has_symbol M i)) (some_below-holds M.columns (λ j. not (eqb (M.constant i j) 0)) j jl e))))
    (λ i j il jl h. not_true (M.symbol i j) (λ e. differ h (some_below-holds M.columns (M.symbol i) j jl e)))
  where
    no_constant : (x : ℕ) → (not (eqb x 0) ≡ true → ⊥) → x ≡ 0
    no_constant x none = elim (zero_cases x) [ inl z ↦ z | inr ne ↦ absurd (none (tested x ne)) ]
      where
        tested : (x : ℕ) → x ≢ 0 → not (eqb x 0) ≡ true
        tested x ne = grind (arith, nat_tests)
