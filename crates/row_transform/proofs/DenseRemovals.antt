-- A dense tableau gives up the base column of a row that leaves, if the row has one.
use Rattle.std.proofs.Common.{◌≡◌, ℕ, ◌+◌, ◌-◌, ◌%◌, ◌<◌, ◌≢◌, ◌↔◌, inl, inr, true, refl, sym, subst, ap, ◌∙◌, arith}
use Rattle.std.proofs.Common.{Option, Some, None, IfSome, IfNone, IsNone, IsSome, length}
use Rattle.residue_theory.proofs.SetLaws.{lt_cases}
use Rattle.residue_theory.specs.Residues.{IsPrime}
use Rattle.linear_algebra.specs.Columns.{IsIndependent}
use Rattle.linear_algebra.specs.Parts.{without_row}
use Rattle.linear_algebra.specs.Products.{IsInverse}
use Rattle.sparse_q.specs.Tables.{number_in, sparse_rows}
use Rattle.row_table.specs.RowTables.{s_part}
use Rattle.row_table.specs.TableEdits.{IsTableWithoutRow}
use Rattle.tableau_edit_laws.specs.Laws.{BasesStayIndependentWithoutARow, SomeRowOfSHasAnEntry}
use Rattle.row_transform.specs.Bases.{BaseLists, IsBaseDropped, base_row, is_base}
use Rattle.row_transform.specs.Dense.{Dense, IsDense, IsLeavingRow, dense_state}
use Rattle.row_transform.specs.Edits.{IsWithoutRow}
use Rattle.row_transform.specs.Tableaus.{IsTableau}
use Rattle.row_transform.proofs.DenseLaws.{dropped-dense}
use Rattle.row_transform.proofs.FreedBases.{bare-none, freed-gone, freed-kept, none-bare}

pub freed-dense : (p : ℕ) (d : Dense) (now : BaseLists) (told : Option ℕ) → IsDense p d → IfNone told (now ≡ d.base) →
    length now.columns ≡ length d.base.columns → length now.rows ≡ length d.base.rows →
    IfSome told (λ v. IsBaseDropped (length d.base.rows) (is_base d.base) (base_row d.base) (is_base now) (base_row now) v) →
    IsDense p (record d { base = now })
freed-dense p d now None dense none rows columns dropped = subst (λ (b : BaseLists). IsDense p (record d { base = b })) (sym none) dense
freed-dense p d now (Some v) dense none rows columns dropped = dropped-dense p d now v dense rows columns dropped

-- some row has an entry in a column of S
pub leaving-some : (p : ℕ) → IsPrime p → SomeRowOfSHasAnEntry → (m : ℕ) (S U : ℕ → ℕ → ℕ) (e : ℕ) (o : Option ℕ) → e < m → IsInverse p m S U →
    IfNone o ((i : ℕ) → i < m → S i e % p ≡ 0) → IsSome o
leaving-some p prime law m S U e (Some k) el inv none = refl
leaving-some p prime law m S U e None el inv none = let w = law p prime m S U e el inv in absurd (w.2 (none w.0 w.1))

-- no base column is told exactly where the base is independent without the row
pub leaves-none : (p : ℕ) → IsPrime p → BasesStayIndependentWithoutARow → (d : Dense) → IsTableau p (dense_state p d) →
    (e k rows : ℕ) → e < sparse_rows d.table.q → rows + 1 ≡ sparse_rows d.table.q → IsLeavingRow p d e k →
    (now : BaseLists) (told : Option ℕ) → IfNone told (now ≡ d.base) →
    ((y : ℕ) → y < d.table.q.width → is_base now y ≡ true → base_row now y ≢ k) →
    IfSome told (λ y. y < d.table.q.width) → IfSome told (λ y. is_base d.base y ≡ true) → IfSome told (λ y. base_row d.base y ≡ k) →
    IsNone told ↔ IsIndependent p (without_row e (number_in d.table.q)) rows d.table.q.width (is_base d.base)
leaves-none p prime law d tableau e k rows el less leaving now told none free below member at =
    let stays = law p prime (sparse_rows d.table.q) d.table.q.width (number_in d.table.q) (s_part p d.table) (dense_state p d).u (dense_state p d).p
    (is_base d.base) (base_row d.base) e el tableau.inverse tableau.product_is tableau.unit_columns in
    let here : rows ≡ sparse_rows d.table.q - 1 = omega (arith, less) in (
      λ is. subst (λ n. IsIndependent p (without_row e (number_in d.table.q)) n d.table.q.width (is_base d.base)) (sym here)
          (stays.1 (k, leaving.below, none-bare told d.base now d.table.q.width k none is free, leaving.entry)),
      λ ind.
          let w = stays.0 (subst (λ n. IsIndependent p (without_row e (number_in d.table.q)) n d.table.q.width (is_base d.base)) here ind) in
          bare-none told d.base d.table.q.width k below member at (leaving.preferred w.0 w.1 w.3 w.2),
    )

-- the row is gone, and the base column that is told
pub row-left : (p : ℕ) (d n : Dense) (e k : ℕ) (now : BaseLists) (told : Option ℕ) → IsTableWithoutRow p d.table n.table e k →
    ((y : ℕ) → is_base n.base y ≡ is_base now y) → IfNone told (now ≡ d.base) →
    IfSome told (λ v. IsBaseDropped d.table.q.width (is_base d.base) (base_row d.base) (is_base now) (base_row now) v) →
    IfSome told (λ y. y < d.table.q.width) → IfSome told (λ y. is_base d.base y ≡ true) →
    IsWithoutRow p (dense_state p d) (dense_state p n) e told
row-left p d n e k now told gone same none dropped below member = record {
  rows_are = gone.q_is.rows_are;
  columns_same = gone.q_is.width_same;
  q_is = λ i j il jl. ap (λ x. x % p) (gone.q_is.numbers i j);
  kept = λ y yl ne. same y ∙ freed-kept told d.base now d.table.q.width none dropped y yl ne;
  below = below;
  was_base = member;
  is_none = freed-gone told d.base now n.base d.table.q.width dropped same;
}

-- what holds of each row below k, and of row k
pub next-row : (P : ℕ → Type 0) (k : ℕ) → ((i : ℕ) → i < k → P i) → P k → (i : ℕ) → i < k + 1 → P i
next-row P k before here i il = elim (lt_cases i k) [
  | inl less ↦ before i less
  | inr more ↦ let q : i ≡ k = omega (arith, il, more) in subst P (sym q) here
]
