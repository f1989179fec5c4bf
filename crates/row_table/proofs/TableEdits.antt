-- A table of P and S where a row or a column of Q comes or goes.
use Rattle.std.proofs.Common.{◌≡◌, ℕ, ◌+◌, ◌-◌, ◌*◌, ◌%◌, ◌<◌, Bool, true, false, ◌⊎◌, inl, inr, refl, ap, sym, ◌∙◌, suc, arith}
use Rattle.std.proofs.Math.Nat.{mod-eq_of_lt}
use Rattle.residue_theory.specs.Residues.{IsPrime}
use Rattle.residue_theory.specs.Sets.{everything, without}
use Rattle.residue_theory.specs.Sums.{sum_below, sum_on}
use Rattle.residue_theory.proofs.SumLaws.{sum_on-ext, sum_on-without}
use Rattle.residue_theory.proofs.SetLaws.{lt_cases}
use Rattle.residue_theory.proofs.ResidueLaws.{vanishes-mul, vanishes-sum}
use Rattle.linear_algebra.specs.Parts.{skip}
use Rattle.linear_algebra.specs.Products.{product, identity, Agree}
use Rattle.linear_algebra_laws.proofs.Entries.{identity-same}
use Rattle.linear_algebra_laws.proofs.Products.{sum-identity_right}
use Rattle.linear_algebra_laws.proofs.SkipLaws.{skip-first, skip-later, sum_on-skip}
use Rattle.sparse_q.specs.Tables.{sparse_rows, number_in}
use Rattle.row_table.specs.Places.{HaveSlots, with_units}
use Rattle.row_table.specs.PutOffs.{actual}
use Rattle.row_table.specs.Layouts.{rows_of_layout, layout_places}
use Rattle.row_table.specs.RowTables.{Combined, entries, s_part, IsCombined}
use Rattle.row_table.specs.TableEdits.{basic_of}
use Rattle.row_table.proofs.PlaceLaws.{whole-unit}
use Rattle.row_table.proofs.RowTableLaws.{units-before, units-after}

-- a sum over all numbers is one over the others and a term
pub sum-split : (m e : ℕ) (f : ℕ → ℕ) → e < m + 1 → sum_below (m + 1) f ≡ sum_below m (λ t. f (skip e t)) + f e
sum-split m e f el =
    sum_on-without everything (m + 1) e f el refl
    ∙ ap (λ s. s + f e) (ap (λ k. sum_on (without everything e) k f) (let q : m + 1 ≡ suc m = omega arith in q)
    ∙ sum_on-skip everything m e f (omega arith))

-- S U = 1, as U is made of the columns of [Q | 1] that are unit columns in [P | S]; and the columns of S are those of S 1
pub made-combined : (p : ℕ) → (t : Combined) → t.kept.rows ≡ sparse_rows t.q → t.kept.columns ≡ t.q.width →
    rows_of_layout t.layout ≡ sparse_rows t.q → t.layout.columns ≡ t.q.width →
    HaveSlots (sparse_rows t.q) t.q.width (t.q.width + sparse_rows t.q) (layout_places t.layout) →
    ((i c : ℕ) → i < sparse_rows t.q → c < t.q.width →
    entries p t i c % p ≡ product (sparse_rows t.q) (s_part p t) (number_in t.q) i c % p) → IsCombined p t
made-combined p t rows columns layout_rows layout_columns placed first = record {
  kept_rows = rows;
  kept_columns = columns;
  layout_rows = layout_rows;
  layout_columns = layout_columns;
  placed = placed;
  product_is = all;
  inverse = λ i j il jl. sym (all i (basic_of t j) il (placed.basic_below j jl))
      ∙ ap (λ y. y % p) (whole-unit (layout_places t.layout) (actual p t.kept) i (basic_of t j) (placed.basic_unit j jl)
      ∙ ap (identity i) (placed.basic_row j jl));
}
  where
    all : Agree p (sparse_rows t.q) (t.q.width + sparse_rows t.q) (entries p t)
        (product (sparse_rows t.q) (s_part p t) (with_units t.q.width (number_in t.q)))
    all i c il cl = elim (lt_cases c t.q.width) [
      | inl l ↦ first i c il l ∙ ap (λ y. y % p) (sum_on-ext everything (sparse_rows t.q)
          (λ k. s_part p t i k * number_in t.q k c) (λ k. s_part p t i k * with_units t.q.width (number_in t.q) k c)
          (λ k _ _. ap (λ y. s_part p t i k * y) (sym (units-before t.q.width (number_in t.q) k c l))))
      | inr le ↦ ap (λ y. y % p) (ap (entries p t i) (let q : c ≡ t.q.width + (c - t.q.width) = omega arith in q)
          ∙ sym (sum-identity_right (sparse_rows t.q) (c - t.q.width) (s_part p t i) (omega arith))
          ∙ sum_on-ext everything (sparse_rows t.q) (λ k. s_part p t i k * identity k (c - t.q.width))
          (λ k. s_part p t i k * with_units t.q.width (number_in t.q) k c)
          (λ k _ _. ap (λ y. s_part p t i k * y) (sym (units-after t.q.width (number_in t.q) k c le))))
    ]

-- P = S Q
pub product-of : (p : ℕ) (t : Combined) → IsCombined p t → (i c : ℕ) → i < sparse_rows t.q → c < t.q.width →
    entries p t i c % p ≡ product (sparse_rows t.q) (s_part p t) (number_in t.q) i c % p
product-of p t combined i c il cl = combined.product_is i c il (omega arith)
    ∙ ap (λ y. y % p) (sum_on-ext everything (sparse_rows t.q)
    (λ k. s_part p t i k * with_units t.q.width (number_in t.q) k c) (λ k. s_part p t i k * number_in t.q k c)
    (λ k _ _. ap (λ y. s_part p t i k * y) (units-before t.q.width (number_in t.q) k c cl)))

pub skip-shifted : (n e k : ℕ) → skip (n + e) (n + k) ≡ n + skip e k
skip-shifted n e k = elim (lt_cases k e) [
  | inl l ↦ skip-first (n + e) (n + k) (omega arith) ∙ ap (λ x. n + x) (sym (skip-first e k l))
  | inr le ↦ skip-later (n + e) (n + k) (omega arith) ∙ (let q : n + k + 1 ≡ n + (k + 1) = omega arith in q)
      ∙ ap (λ x. n + x) (sym (skip-later e k le))
]

pub bool_cases : (b : Bool) → (b ≡ true) ⊎ (b ≡ false)
bool_cases true = inl refl
bool_cases false = inr refl

-- a column of zeros is no unit column
pub zero-free : (p : ℕ) → IsPrime p → (t : Combined) (v : ℕ) → IsCombined p t → v < t.q.width →
    ((i : ℕ) → i < sparse_rows t.q → number_in t.q i v % p ≡ 0) → (layout_places t.layout).is_unit v ≡ false
zero-free p prime t v combined vl empty = elim (bool_cases ((layout_places t.layout).is_unit v)) [
  | inl h ↦ absurd (wrong h)
  | inr h ↦ h
]
  where
    wrong : (layout_places t.layout).is_unit v ≡ true → ⊥
    wrong h =
        let r = (layout_places t.layout).row v in
        let rl = combined.placed.row_below v (omega arith) h in
        let one : entries p t r v % p ≡ 1 = ap (λ z. z % p) (whole-unit (layout_places t.layout) (actual p t.kept) r v h
        ∙ identity-same r) ∙ mod-eq_of_lt prime.above_one in
        let none : entries p t r v % p ≡ 0 = product-of p t combined r v rl vl
        ∙ vanishes-sum p everything (sparse_rows t.q) (λ k. s_part p t r k * number_in t.q k v)
        (λ k kl _. vanishes-mul p (s_part p t r k) (number_in t.q k v) (empty k kl)) in
        omega (arith, sym one ∙ none)
