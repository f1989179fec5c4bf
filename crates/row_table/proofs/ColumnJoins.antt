-- A table of P and S where a column of zeros joins.
use Rattle.std.proofs.Common.{◌≡◌, ℕ, ◌+◌, ◌*◌, ◌%◌, ◌<◌, ◌≤◌, ◌≢◌, inl, inr, ap, sym, subst, ◌∙◌, arith}
use Rattle.residue_theory.specs.Sets.{everything}
use Rattle.residue_theory.proofs.SumLaws.{nat_cases, sum_on-ext, sum_on-none}
use Rattle.linear_algebra.specs.Parts.{skip, unskip}
use Rattle.linear_algebra.specs.Products.{product}
use Rattle.linear_algebra_laws.proofs.SkipLaws.{skip-below, skip-later, skip-unskip, unskip-below}
use Rattle.sparse_q.specs.Tables.{sparse_rows, number_in}
use Rattle.row_table.specs.Places.{Places, HaveSlots}
use Rattle.row_table.specs.PlaceEdits.{ArePlacedAlike, places_with_column}
use Rattle.row_table.specs.PutOffs.{actual}
use Rattle.row_table.specs.Layouts.{rows_of_layout, layout_places}
use Rattle.row_table.specs.RowTables.{Combined, entries, p_part, s_part, IsCombined}
use Rattle.row_table.specs.TableEdits.{IsQWithColumn, IsTableWithColumn}
use Rattle.row_table.proofs.PlaceLaws.{whole-unit, whole-slot}
use Rattle.row_table.proofs.PlaceEdits.{alike-placed, alike-whole, column-joins, column-joins-whole, column-joins-new}
use Rattle.row_table.proofs.RowTableLaws.{part-within}
use Rattle.row_table.proofs.TableEdits.{made-combined, product-of, bool_cases}

-- ---- a column of zeros joins
module _ (p : ℕ) (t n : Combined) (v : ℕ) (combined : IsCombined p t) (vl : v ≤ t.q.width) (q : IsQWithColumn t.q n.q v)
    (rows : n.kept.rows ≡ sparse_rows t.q) (columns : n.kept.columns ≡ t.q.width + 1)
    (layout_rows : rows_of_layout n.layout ≡ sparse_rows t.q) (layout_columns : n.layout.columns ≡ t.q.width + 1)
    (alike : ArePlacedAlike (sparse_rows t.q) (places_with_column t.q.width v (layout_places t.layout)) (layout_places n.layout))
    (stays : (i j : ℕ) → i < sparse_rows t.q → j < t.q.width → actual p n.kept i j ≡ actual p t.kept i j)
    (zero : (i : ℕ) → i < sparse_rows t.q → actual p n.kept i t.q.width ≡ 0) where
  abbrev m : ℕ
  m = sparse_rows t.q

  abbrev w : ℕ
  w = t.q.width

  abbrev s : Places
  s = layout_places t.layout

  v-in : v < w + m + 1
  v-in = omega arith

  joined-column : (i c : ℕ) → i < m → c < w + m → entries p n i (skip v c) ≡ entries p t i c
  joined-column i c il cl = alike-whole m _ _ alike (actual p n.kept) i (skip v c)
      ∙ column-joins-whole m w (w + m) s v combined.placed v-in (actual p n.kept) i c
      ∙ elim (bool_cases (s.is_unit c)) [
        | inl h ↦ whole-unit s (actual p n.kept) i c h ∙ sym (whole-unit s (actual p t.kept) i c h)
        | inr h ↦ whole-slot s (actual p n.kept) i c h ∙ stays i (s.slot c) il (combined.placed.slot_below c cl h)
            ∙ sym (whole-slot s (actual p t.kept) i c h)
      ]

  zero-column : (i : ℕ) → i < m → entries p n i v ≡ 0
  zero-column i il = alike-whole m _ _ alike (actual p n.kept) i v
      ∙ column-joins-new m w (w + m) s v combined.placed v-in (actual p n.kept) i ∙ zero i il

  s-stays : (i k : ℕ) → i < m → k < m → entries p n i (w + 1 + k) ≡ entries p t i (w + k)
  s-stays i k il kl = ap (entries p n i) (sym (skip-later v (w + k) (omega arith)
      ∙ (let g : w + k + 1 ≡ w + 1 + k = omega arith in g))) ∙ joined-column i (w + k) il (omega arith)

  column-product : (i c : ℕ) → i < m → c < w + 1 →
      entries p n i c % p ≡ product m (λ i k. entries p n i (w + 1 + k)) (number_in n.q) i c % p
  column-product i c il cl = elim (nat_cases c v) [
    | inl g ↦ subst (λ c. entries p n i c % p ≡ product m (λ i k. entries p n i (w + 1 + k)) (number_in n.q) i c % p) (sym g)
        (ap (λ z. z % p) (zero-column i il ∙ sym (sum_on-ext everything m (λ k. entries p n i (w + 1 + k) * number_in n.q k v)
        (λ _. 0) (λ k _ _. ap (λ z. entries p n i (w + 1 + k) * z) (q.here k)
        ∙ (let h : entries p n i (w + 1 + k) * 0 ≡ 0 = omega arith in h)) ∙ sum_on-none everything m)))
    | inr ne ↦ subst (λ c. entries p n i c % p ≡ product m (λ i k. entries p n i (w + 1 + k)) (number_in n.q) i c % p)
        (skip-unskip v c ne) (other (unskip v c) (within c cl ne))
  ]
    where
      within : (c : ℕ) → c < w + 1 → c ≢ v → unskip v c < w
      within c cl ne = let l = unskip-below v c (w + 1) (omega arith) cl ne in omega (arith, l)

      other : (c : ℕ) → c < w →
          entries p n i (skip v c) % p ≡ product m (λ i k. entries p n i (w + 1 + k)) (number_in n.q) i (skip v c) % p
      other c l = ap (λ z. z % p) (joined-column i c il (omega arith)) ∙ product-of p t combined i c il l
          ∙ ap (λ z. z % p) (sum_on-ext everything m (λ k. entries p t i (w + k) * number_in t.q k c)
          (λ k. entries p n i (w + 1 + k) * number_in n.q k (skip v c))
          (λ k kl _. ap (λ z. z * number_in t.q k c) (sym (s-stays i k il kl))
          ∙ ap (λ z. entries p n i (w + 1 + k) * z) (sym (q.others k c))))

  pub column-joined : IsCombined p n
  column-joined = made-combined p n (rows ∙ sym q.rows_same) (columns ∙ sym q.width_are) (layout_rows ∙ sym q.rows_same)
      (layout_columns ∙ sym q.width_are)
      (subst (λ r. HaveSlots r n.q.width (n.q.width + r) (layout_places n.layout)) (sym q.rows_same)
      (subst (λ c. HaveSlots m c (c + m) (layout_places n.layout)) (sym q.width_are)
      (subst (λ z. HaveSlots m (w + 1) z (layout_places n.layout)) (let g : w + m + 1 ≡ w + 1 + m = omega arith in g)
      (alike-placed m (w + 1) (w + m + 1) _ _ alike (column-joins m w (w + m) s v combined.placed v-in)))))
      (subst (λ r. (i c : ℕ) → i < r → c < n.q.width → entries p n i c % p ≡ product r (s_part p n) (number_in n.q) i c % p)
      (sym q.rows_same)
      (subst (λ u. (i c : ℕ) → i < m → c < u → entries p n i c % p
      ≡ product m (λ i k. entries p n i (u + k)) (number_in n.q) i c % p) (sym q.width_are) column-product))

  p-in : (i j : ℕ) → i < m → j < w + 1 → p_part p n i j ≡ entries p n i j
  p-in i j il jl = part-within i (sparse_rows n.q) j n.q.width (entries p n i j) (omega (arith, q.rows_same))
      (omega (arith, q.width_are))

  pub column-joined-told : IsTableWithColumn p t n v
  column-joined-told = record {
    q_is = q;
    here = λ i il. p-in i v il (omega arith) ∙ zero-column i il;
    others = λ i j il jl. p-in i (skip v j) il (skip-below v j (w + 1) (omega arith) (omega arith)) ∙ joined-column i j il (omega arith)
        ∙ sym (part-within i m j w (entries p t i j) il jl);
    basic_is = alike.basic_is;
  }
