-- The columns of the symbols of an equation, one after another: no symbol stands between them.
use Rattle.std.proofs.Common.{◌≡◌, ℕ, zero, suc, ◌+◌, ◌<◌, ◌≤◌, inl, inr, List, length, get_or, ap, sym, ◌∙◌, arith}
use Rattle.std.proofs.lemmas.List.{get_or_default, get_or_past}
use Rattle.residue_theory.proofs.SetLaws.{lt_cases, not_true}
use Rattle.residue_theory.specs.Sets.{has}
use Rattle.sparse_t.proofs.ListLaws.{has-at, has-member, rises}
use Rattle.mixed_matrices.specs.Models.{MixedMatrix}
use Rattle.value_list_laws.specs.FixedSymbols.{IsSymbolPlace}
use Rattle.value_lists.specs.Fixing.{AreSymbolColumns}
use Rattle.value_lists.proofs.Steps.{IsGap}

-- behind the first k columns
abbrev pub behind : List ℕ → ℕ → ℕ
behind columns zero = 0
behind columns (suc k) = get_or columns k 0 + 1

module _ (M : MixedMatrix) (i : ℕ) (il : i < M.rows) (columns : List ℕ) (are : AreSymbolColumns M i columns) where
  -- the column at place k, and past the last one the number of columns
  abbrev pub column : ℕ → ℕ
  column k = get_or columns k M.columns

  pub column-at : (k : ℕ) → k < length columns → column k ≡ get_or columns k 0
  column-at k kl = get_or_default columns k M.columns 0 kl

  pub column-end : (k : ℕ) → length columns ≤ k → column k ≡ M.columns
  column-end k far = get_or_past columns k M.columns far

  pub symbol-at : (k : ℕ) → k < length columns → IsSymbolPlace M i (column k)
  symbol-at k kl =
      let low : column k < M.columns = omega (arith, column-at k kl, are.below k kl) in
      (il, low, sym (are.exact (column k) low) ∙ has-at columns k (column k) kl (sym (column-at k kl)))

  pub behind-low : (k : ℕ) → k ≤ length columns → behind columns k ≤ column k
  behind-low zero kl = omega arith
  behind-low (suc k) kl = elim (lt_cases (suc k) (length columns)) [
    | inl within ↦ omega (arith, column-at (suc k) within, rises columns are.rising k (suc k) (omega arith) within)
    | inr past ↦ omega (arith, column-end (suc k) (omega (arith, past)), are.below k (omega (arith, kl)))
  ]

  -- a column before place k lies behind none of the first k
  earlier : (b k : ℕ) → k ≤ length columns → behind columns k ≤ b → (m : ℕ) → get_or columns m 0 ≡ b → m < k → ⊥
  earlier b zero kl from m is less = omega (arith, less)
  earlier b (suc k) kl from m is less = elim (lt_cases m k) [
    | inl low ↦ omega (arith, from, is, rises columns are.rising m k low (omega (arith, kl)))
    | inr high ↦ let same : m ≡ k = omega (arith, less, high) in omega (arith, from, is, ap (λ n. get_or columns n 0) same)
  ]

  pub gap : (k : ℕ) → k ≤ length columns → IsGap M i (behind columns k) (column k)
  gap k kl b from below = elim (lt_cases b M.columns) [
    | inl low ↦ sym (are.exact b low) ∙ not_true (has columns b) (λ h. elsewhere (has-member columns b h))
    | inr high ↦ absurd (too_high high)
  ]
    where
      too_high : M.columns ≤ b → ⊥
      too_high high = elim (lt_cases k (length columns)) [
        | inl within ↦ omega (arith, high, below, column-at k within, are.below k within)
        | inr past ↦ omega (arith, high, below, column-end k (omega (arith, past)))
      ]

      later : (m : ℕ) → m < length columns → k ≤ m → get_or columns m 0 ≡ b → ⊥
      later m ml le is = elim (lt_cases k m) [
        | inl less ↦ omega (arith, below, column-at k (omega (arith, less, ml)), rises columns are.rising k m less ml, is)
        | inr more ↦ let same : k ≡ m = omega (arith, le, more) in
            omega (arith, below, column-at k (omega (arith, same, ml)), ap (λ n. get_or columns n 0) same, is)
      ]

      elsewhere : (m : ℕ) × (m < length columns) × (get_or columns m 0 ≡ b) → ⊥
      elsewhere (m, ml, is) = elim (lt_cases m k) [
        | inl less ↦ earlier b k kl from m is less
        | inr more ↦ later m ml more is
      ]
