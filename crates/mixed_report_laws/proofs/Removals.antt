-- What is left out of a model is emptied in its layered matrix.
use Rattle.std.proofs.Common.{◌≡◌, ℕ, ◌+◌, ◌<◌, Bool, true, false, cond, ◌&&◌, eqb, not, ◌⊎◌, inl, inr, refl, ap, sym, subst, ◌∙◌, arith}
use Rattle.residue_theory.proofs.SetLaws.{both-first, both-second, differ, either-second, eqb_true, not_true}
use Rattle.residue_theory.proofs.SumLaws.{member-without, nat_cases}
use Rattle.residue_theory.specs.Residues.{IsPrime}
use Rattle.residue_theory.specs.Sets.{everything, without}
use Rattle.residue_theory.specs.Sums.{size_on}
use Rattle.mixed_matrices.specs.LayeredMatrices.{LayeredMatrix, layered_part}
use Rattle.mixed_matrices.specs.Layerings.{IsLayeredMatrixOf, IsLayering, Origins, gives_q, has_constant, has_symbol}
use Rattle.mixed_matrices.specs.Models.{MixedMatrix}
use Rattle.mixed_matrices.specs.Removals.{mixed_part, without_equation, without_unknown}
use Rattle.mixed_matrices.specs.StructuralRanks.{IsLayeredRank, IsStructuralRank}
use Rattle.mixed_pair_laws.proofs.RemovedRows.{emptied_equation, emptied_unknown, left_equation, left_unknown}
use Rattle.mixed_layering_laws.proofs.LayeringRank.{law-layering, layering-law}
use Rattle.mixed_layering_laws.proofs.Members.{member-at, member-index, members-distinct}
use Rattle.mixed_report_laws.proofs.PartEntries.{part-none, part-zero, row-gone, row-kept, symbol-gone, symbol-kept, without-no}
use Rattle.mixed_report_laws.proofs.SplitEquations.{cut, cut-first, cut-layering, first-cut}

module _ (p : ℕ) (prime : IsPrime p) (M : MixedMatrix) (A D : ℕ → Bool) (L : LayeredMatrix) (O : Origins) (lay : IsLayering M A D L O) where
  -- ---- an unknown
  module _ (v : ℕ) (vl : v < M.columns) where
    column-layering : IsLayering (mixed_part everything (without everything v) M) A D (layered_part everything everything (without everything v) L) O
    column-layering = record {
      constants = λ i j il jl e. part-zero (without everything v j) (M.constant i j) (lay.constants i j il jl e);
      symbols = λ i j il jl e. part-none true (without everything v j) (M.symbol i j) (lay.symbols i j il jl e);
      q_rows = lay.q_rows;
      t_rows = lay.t_rows;
      auxiliary = lay.auxiliary;
      columns = lay.columns;
      q = λ i j il jl. ap (λ s. cond (without everything v j) s 0) (lay.q i j il jl);
      q_auxiliary = λ i k il kl. ap (λ s. cond s (L.q i (M.columns + k)) 0) (outside k) ∙ lay.q_auxiliary i k il kl;
      t = λ i j il jl. ap (λ s. without everything v j && s) (lay.t i j il jl);
      t_auxiliary = λ i k il kl. ap (λ s. s && L.t i (M.columns + k)) (outside k) ∙ lay.t_auxiliary i k il kl;
    }
      where
        outside : (k : ℕ) → without everything v (M.columns + k) ≡ true
        outside k = member-without everything v (M.columns + k) refl (λ q. absurd (omega arith))

  -- ---- an equation with a T row and no Q row
  module _ (d : ℕ) (dl : d < L.t_rows) (no_q : A (O.of_t d) ≡ false) where
    symbol-layering : IsLayering (mixed_part (without everything (O.of_t d)) everything M) A D
        (layered_part everything (without everything d) everything L) O
    symbol-layering = record {
      constants = λ x j xl jl h. part-zero (without everything (O.of_t d) x && true) (M.constant x j) (lay.constants x j xl jl h);
      symbols = λ x j xl jl h. part-none (without everything (O.of_t d) x) true (M.symbol x j) (lay.symbols x j xl jl h);
      q_rows = lay.q_rows;
      t_rows = lay.t_rows;
      auxiliary = lay.auxiliary;
      columns = lay.columns;
      q = λ x j xl jl. lay.q x j xl jl ∙ sym (row-kept (without everything (O.of_t d) (O.of_q x)) (M.constant (O.of_q x) j)
          (member-without everything (O.of_t d) (O.of_q x) refl (λ e. differ (subst (λ y. A y ≡ false) (sym e) no_q) (lay.q_rows.member x xl))));
      q_auxiliary = lay.q_auxiliary;
      t = λ x j xl jl. elim (nat_cases x d) [
        | inl q ↦ symbol-gone (without everything d x) (L.t x j) (without-no d x q)
            ∙ sym (symbol-gone (without everything (O.of_t d) (O.of_t x)) (M.symbol (O.of_t x) j) (without-no (O.of_t d) (O.of_t x) (ap O.of_t q)))
        | inr ne ↦ symbol-kept (without everything d x) (L.t x j) (member-without everything d x refl ne) ∙ lay.t x j xl jl
            ∙ sym (symbol-kept (without everything (O.of_t d) (O.of_t x)) (M.symbol (O.of_t x) j)
            (member-without everything (O.of_t d) (O.of_t x) refl
            (λ q. ne (members-distinct D M.rows O.of_t L.t_rows lay.t_rows x d xl dl q))))
      ];
      t_auxiliary = λ x z xl zl. elim (nat_cases x d) [
        | inl q ↦ symbol-gone (without everything d x) (L.t x (M.columns + z)) (without-no d x q)
            ∙ sym (not_true (eqb (O.of_t x) (O.of_z z)) (λ h. differ
            (subst (λ y. A y ≡ false) (sym (ap O.of_t q) ∙ eqb_true (O.of_t x) (O.of_z z) h) no_q)
            (both-first (A (O.of_z z)) (D (O.of_z z)) (lay.auxiliary.member z zl))))
        | inr ne ↦ symbol-kept (without everything d x) (L.t x (M.columns + z)) (member-without everything d x refl ne) ∙ lay.t_auxiliary x z xl zl
      ];
    }

  -- ---- an equation with a Q row and no T row
  module _ (e : ℕ) (el : e < L.q_rows) (no_t : D (O.of_q e) ≡ false) where
    constant-layering : IsLayering (mixed_part (without everything (O.of_q e)) everything M) A D
        (layered_part (without everything e) everything everything L) O
    constant-layering = record {
      constants = λ x j xl jl h. part-zero (without everything (O.of_q e) x && true) (M.constant x j) (lay.constants x j xl jl h);
      symbols = λ x j xl jl h. part-none (without everything (O.of_q e) x) true (M.symbol x j) (lay.symbols x j xl jl h);
      q_rows = lay.q_rows;
      t_rows = lay.t_rows;
      auxiliary = lay.auxiliary;
      columns = lay.columns;
      q = λ x j xl jl. elim (nat_cases x e) [
        | inl q ↦ row-gone (without everything e x) (L.q x j) (without-no e x q)
            ∙ sym (row-gone (without everything (O.of_q e) (O.of_q x)) (M.constant (O.of_q x) j) (without-no (O.of_q e) (O.of_q x) (ap O.of_q q)))
        | inr ne ↦ row-kept (without everything e x) (L.q x j) (member-without everything e x refl ne) ∙ lay.q x j xl jl
            ∙ sym (row-kept (without everything (O.of_q e) (O.of_q x)) (M.constant (O.of_q x) j) (member-without everything (O.of_q e) (O.of_q x) refl
            (λ q. ne (members-distinct A M.rows O.of_q L.q_rows lay.q_rows x e xl el q))))
      ];
      q_auxiliary = λ x z xl zl. elim (nat_cases x e) [
        | inl q ↦ row-gone (without everything e x) (L.q x (M.columns + z)) (without-no e x q)
            ∙ sym (unmarked (eqb (O.of_q x) (O.of_z z)) (not_true (eqb (O.of_q x) (O.of_z z))
            (λ h. differ (subst (λ y. D y ≡ false) (sym (ap O.of_q q) ∙ eqb_true (O.of_q x) (O.of_z z) h) no_t)
            (both-second (A (O.of_z z)) (D (O.of_z z)) (lay.auxiliary.member z zl)))))
        | inr ne ↦ row-kept (without everything e x) (L.q x (M.columns + z)) (member-without everything e x refl ne) ∙ lay.q_auxiliary x z xl zl
      ];
      t = λ x j xl jl. lay.t x j xl jl ∙ sym (symbol-kept (without everything (O.of_q e) (O.of_t x)) (M.symbol (O.of_t x) j)
          (member-without everything (O.of_q e) (O.of_t x) refl (λ q. differ (subst (λ y. D y ≡ false) (sym q) no_t) (lay.t_rows.member x xl))));
      t_auxiliary = lay.t_auxiliary;
    }
      where
        unmarked : (s : Bool) → s ≡ false → (λ (y : ℕ). cond s y 0) 1 ≡ 0
        unmarked s h = grind arith

  -- ---- the ranks
  module _ (big : 2 < p) where
    pub unknown-column : (v : ℕ) → v < M.columns → (r : ℕ) → IsStructuralRank p (without_unknown v M) r → IsLayeredRank p
        (layered_part everything everything (without everything v) L) (r + O.split)
    unknown-column v vl r R = layering-law p prime (mixed_part everything (without everything v) M) A D
        (layered_part everything everything (without everything v) L) O (column-layering v vl) big r (left_unknown p prime M v vl r R)

    pub column-unknown : (v : ℕ) → v < M.columns → (r : ℕ) → IsLayeredRank p (layered_part everything everything (without everything v) L)
        (r + O.split) → IsStructuralRank p (without_unknown v M) r
    column-unknown v vl r R = emptied_unknown p prime M v vl r
        (law-layering p prime (mixed_part everything (without everything v) M) A D (layered_part everything everything (without everything v) L) O
        (column-layering v vl) big r R)

    pub equation-symbols : (d : ℕ) → d < L.t_rows → (r : ℕ) → IsStructuralRank p (without_equation (O.of_t d) M) r → IsLayeredRank p
        (layered_part everything (without everything d) everything L) (r + O.split)
    equation-symbols d dl r R = go (A (O.of_t d)) refl
      where
        go : (b : Bool) → A (O.of_t d) ≡ b → IsLayeredRank p (layered_part everything (without everything d) everything L) (r + O.split)
        go false h = layering-law p prime (mixed_part (without everything (O.of_t d)) everything M) A D
            (layered_part everything (without everything d) everything L) O (symbol-layering d dl h) big r
            (left_equation p prime M (O.of_t d) (lay.t_rows.below d dl) r R)
        go true h = cut-first p prime M A D L O lay d dl h (r + O.split)
            (layering-law p prime (mixed_part (without everything (O.of_t d)) everything M) A D (cut p prime M A D L O lay d dl h) O
            (cut-layering p prime M A D L O lay d dl h) big r
            (left_equation p prime M (O.of_t d) (lay.t_rows.below d dl) r R))

    pub symbols-equation : (d : ℕ) → d < L.t_rows → (r : ℕ) → IsLayeredRank p (layered_part everything (without everything d) everything L)
        (r + O.split) → IsStructuralRank p (without_equation (O.of_t d) M) r
    symbols-equation d dl r R = emptied_equation p prime M (O.of_t d) (lay.t_rows.below d dl) r (go (A (O.of_t d)) refl)
      where
        go : (b : Bool) → A (O.of_t d) ≡ b → IsStructuralRank p (mixed_part (without everything (O.of_t d)) everything M) r
        go false h = law-layering p prime (mixed_part (without everything (O.of_t d)) everything M) A D
            (layered_part everything (without everything d) everything L) O (symbol-layering d dl h) big r R
        go true h = law-layering p prime (mixed_part (without everything (O.of_t d)) everything M) A D (cut p prime M A D L O lay d dl h) O
            (cut-layering p prime M A D L O lay d dl h) big r
            (first-cut p prime M A D L O lay d dl h (r + O.split) R)

    pub equation-constants : (e : ℕ) → e < L.q_rows → D (O.of_q e) ≡ false → (r : ℕ) → IsStructuralRank p
        (without_equation (O.of_q e) M) r → IsLayeredRank p (layered_part (without everything e) everything everything L) (r + O.split)
    equation-constants e el no_t r R = layering-law p prime (mixed_part (without everything (O.of_q e)) everything M) A D
        (layered_part (without everything e) everything everything L) O (constant-layering e el no_t) big r
        (left_equation p prime M (O.of_q e) (lay.q_rows.below e el) r R)

    pub constants-equation : (e : ℕ) → e < L.q_rows → D (O.of_q e) ≡ false → (r : ℕ) → IsLayeredRank p
        (layered_part (without everything e) everything everything L) (r + O.split) → IsStructuralRank p (without_equation (O.of_q e) M) r
    constants-equation e el no_t r R = emptied_equation p prime M (O.of_q e) (lay.q_rows.below e el) r
        (law-layering p prime (mixed_part (without everything (O.of_q e)) everything M) A D
        (layered_part (without everything e) everything everything L) O (constant-layering e el no_t) big r R)

-- in the layered matrix of a model each equation has a T row, or no symbol and a Q row
pub equation_rows : (M : MixedMatrix) (L : LayeredMatrix) (O : Origins) → IsLayeredMatrixOf M L O → (i : ℕ) → i < M.rows →
    ((d : ℕ) × (d < L.t_rows) × (O.of_t d ≡ i)) ⊎ ((e : ℕ) × (e < L.q_rows) × (O.of_q e ≡ i) × (has_symbol M i ≡ false))
equation_rows M L O lay i il = go (has_symbol M i) refl
  where
    go : (b : Bool) → has_symbol M i ≡ b → ((d : ℕ) × (d < L.t_rows) × (O.of_t d ≡ i)) ⊎
        ((e : ℕ) × (e < L.q_rows) × (O.of_q e ≡ i) × (has_symbol M i ≡ false))
    go true h = inl (
      size_on (has_symbol M) i,
      member-index (has_symbol M) M.rows O.of_t L.t_rows lay.t_rows i il h,
      member-at (has_symbol M) M.rows O.of_t L.t_rows lay.t_rows i il h,
    )
    go false h = inr (
      size_on (gives_q M) i,
      member-index (gives_q M) M.rows O.of_q L.q_rows lay.q_rows i il (given h),
      member-at (gives_q M) M.rows O.of_q L.q_rows lay.q_rows i il (given h),
      h,
    )
      where
        given : has_symbol M i ≡ false → gives_q M i ≡ true
        given e = either-second (has_constant M i) (not (has_symbol M i)) (ap not e)
