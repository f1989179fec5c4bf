-- What the base columns of a tableau span, and how the rows tell it.
use Rattle.std.proofs.Common.{◌≡◌, ℕ, ◌+◌, ◌%◌, ◌<◌, true, false, inl, inr, sym, ◌∙◌, arith, Option, Some, None, is_some, IfSome, IfNone}
use Rattle.residue_theory.specs.Residues.{IsPrime}
use Rattle.residue_theory.specs.Ranges.{IsLeast}
use Rattle.residue_theory.proofs.SumLaws.{nat_cases}
use Rattle.residue_theory.proofs.SetLaws.{lt_cases}
use Rattle.linear_algebra.specs.Columns.{IsCombination}
use Rattle.row_transform.specs.Tableaus.{TableauState, IsTableau, IsBare, IsBaseColumn, has_entry}
use Rattle.row_transform.proofs.EntryLaws.{zero_of}
use Rattle.row_transform.proofs.TableauLaws.{span-zero, zero-span}

-- ---- the span of the base columns
module _ (p : ℕ) (prime : IsPrime p) (t : TableauState) (tableau : IsTableau p t) (v : ℕ) (vl : v < t.columns) where
  pub in_span-zero : IsCombination p t.q t.rows t.columns t.base v →
      (i : ℕ) → i < t.rows → IsBare t i → t.p i v % p ≡ 0
  in_span-zero = span-zero p prime t.rows t.columns t.q t.p t.s t.u t.base t.row tableau.product_is tableau.inverse
      tableau.unit_columns v vl

  pub zero-in_span : ((i : ℕ) → i < t.rows → IsBare t i → t.p i v % p ≡ 0) →
      IsCombination p t.q t.rows t.columns t.base v
  zero-in_span = zero-span p prime t.rows t.columns t.q t.p t.s t.u t.base t.row tableau.product_is tableau.inverse
      tableau.unit_columns v vl

-- ---- a row, as its base column tells
pub bare_from : (o : Option ℕ) (P : Type 0) → is_some o ≡ false → IfNone o P → P
bare_from None P e h = h
bare_from (Some y) P e h = absurd (cc)

-- a row with an entry, but a base column too, is passed by a search of the span
pub span-next : (p : ℕ) (t : TableauState) (v at r : ℕ) (o : Option ℕ) →
    ((k : ℕ) → k < at → IsBare t k → t.p k v % p ≡ 0) → IsLeast (λ row. has_entry p t row v) at t.rows r →
    is_some o ≡ true → IfSome o (λ y. IsBaseColumn t r y) → (k : ℕ) → k < r + 1 → IsBare t k → t.p k v % p ≡ 0
span-next p t v at r None so_far least some is k kl bare = absurd (cc)
span-next p t v at r (Some y) so_far least some is k kl bare = elim (nat_cases k r) [
  | inl q ↦ absurd (bare y is.below is.member (is.at_row ∙ sym q))
  | inr ne ↦ elim (lt_cases k at) [
    | inl l ↦ so_far k l bare
    | inr ge ↦ zero_of (t.p k v % p) (least.none_before k ge (omega arith))
  ]
]
