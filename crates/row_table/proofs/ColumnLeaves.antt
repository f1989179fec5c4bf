-- A table of P and S where a column leaves.
use Rattle.std.proofs.Common.{◌≡◌, ℕ, ◌+◌, ◌-◌, ◌*◌, ◌%◌, ◌<◌, ◌≢◌, false, inl, inr, ap, sym, subst, ◌∙◌, arith}
use Rattle.std.proofs.lemmas.Bool.Decides.{nat_tests}
use Rattle.residue_theory.specs.Sets.{everything}
use Rattle.residue_theory.proofs.SumLaws.{sum_on-ext}
use Rattle.linear_algebra.specs.Parts.{skip}
use Rattle.linear_algebra.specs.Products.{product}
use Rattle.linear_algebra_laws.proofs.SkipLaws.{skip-below, skip-later}
use Rattle.sparse_q.specs.Tables.{sparse_rows, number_in}
use Rattle.row_table.specs.Places.{Places, HaveSlots, last_at, whole}
use Rattle.row_table.specs.PlaceEdits.{ArePlacedAlike, places_without_column}
use Rattle.row_table.specs.PutOffs.{actual}
use Rattle.row_table.specs.Layouts.{rows_of_layout, layout_places}
use Rattle.row_table.specs.RowTables.{Combined, entries, s_part, IsCombined}
use Rattle.row_table.specs.TableEdits.{IsQWithoutColumn, IsTableWithoutColumn}
use Rattle.row_table.proofs.PlaceLaws.{whole-unit, whole-slot}
use Rattle.row_table.proofs.PlaceEdits.{alike-placed, alike-whole, column-leaves, column-leaves-whole}
use Rattle.row_table.proofs.RowTableLaws.{part-within}
use Rattle.row_table.proofs.TableEdits.{made-combined, product-of, bool_cases}

-- ---- a column leaves
module _ (p : ℕ) (t n : Combined) (v : ℕ) (combined : IsCombined p t) (vl : v < t.q.width)
    (free : (layout_places t.layout).is_unit v ≡ false) (q : IsQWithoutColumn t.q n.q v)
    (rows : n.kept.rows ≡ sparse_rows t.q) (columns : n.kept.columns ≡ t.q.width - 1)
    (layout_rows : rows_of_layout n.layout ≡ sparse_rows t.q) (layout_columns : n.layout.columns ≡ t.q.width - 1)
    (alike : ArePlacedAlike (sparse_rows t.q) (places_without_column t.q.width v (layout_places t.layout)) (layout_places n.layout))
    (moved : (i j : ℕ) → i < sparse_rows t.q → j < t.q.width - 1 →
    actual p n.kept i j ≡ actual p t.kept i (last_at ((layout_places t.layout).slot v) (t.q.width - 1) j)) where
  abbrev m : ℕ
  m = sparse_rows t.q

  abbrev w : ℕ
  w = t.q.width

  abbrev s : Places
  s = layout_places t.layout

  v-all : v < w + m
  v-all = omega arith

  -- the table as the places law takes it
  abbrev b : ℕ → ℕ → ℕ
  b i j = actual p t.kept i (last_at (s.slot v) (w - 1) j)

  width-now : n.q.width ≡ w - 1
  width-now = omega (arith, q.width_are)

  placed-now : HaveSlots m (w - 1) (w + m - 1) (layout_places n.layout)
  placed-now = alike-placed m (w - 1) (w + m - 1) _ _ alike (column-leaves m w (w + m) s v combined.placed v-all free)

  left-column : (i c : ℕ) → i < m → c < w + m - 1 → entries p n i c ≡ entries p t i (skip v c)
  left-column i c il cl = elim (bool_cases ((layout_places n.layout).is_unit c)) [
    | inl h ↦ whole-unit (layout_places n.layout) (actual p n.kept) i c h
        ∙ sym (whole-unit (layout_places n.layout) b i c h) ∙ rest
    | inr h ↦ whole-slot (layout_places n.layout) (actual p n.kept) i c h
        ∙ moved i ((layout_places n.layout).slot c) il (placed-now.slot_below c cl h)
        ∙ sym (whole-slot (layout_places n.layout) b i c h) ∙ rest
  ]
    where
      rest : whole (layout_places n.layout) b i c ≡ entries p t i (skip v c)
      rest = alike-whole m _ _ alike b i c
          ∙ column-leaves-whole m w (w + m) s v combined.placed v-all free (actual p t.kept) b
          (λ i. ap (actual p t.kept i) (same (s.slot v) (w - 1)))
          (λ i j ne. ap (actual p t.kept i) (apart (s.slot v) (w - 1) j ne)) i c cl
        where
          same : (k l : ℕ) → last_at k l k ≡ l
          same k l = grind (arith, nat_tests)

          apart : (k l j : ℕ) → j ≢ k → last_at k l j ≡ j
          apart k l j ne = grind (arith, nat_tests)

  s-left : (i k : ℕ) → i < m → k < m → entries p n i (w - 1 + k) ≡ entries p t i (w + k)
  s-left i k il kl = left-column i (w - 1 + k) il (omega arith)
      ∙ ap (entries p t i) (skip-later v (w - 1 + k) (omega arith) ∙ omega arith)

  pub column-left : IsCombined p n
  column-left = made-combined p n (rows ∙ sym q.rows_same) (columns ∙ sym width-now) (layout_rows ∙ sym q.rows_same)
      (layout_columns ∙ sym width-now)
      (subst (λ r. HaveSlots r n.q.width (n.q.width + r) (layout_places n.layout)) (sym q.rows_same)
      (subst (λ c. HaveSlots m c (c + m) (layout_places n.layout)) (sym width-now)
      (subst (λ z. HaveSlots m (w - 1) z (layout_places n.layout)) (let g : w + m - 1 ≡ w - 1 + m = omega arith in g) placed-now)))
      (subst (λ r. (i c : ℕ) → i < r → c < n.q.width → entries p n i c % p ≡ product r (s_part p n) (number_in n.q) i c % p)
      (sym q.rows_same)
      (subst (λ u. (i c : ℕ) → i < m → c < u → entries p n i c % p
      ≡ product m (λ i k. entries p n i (u + k)) (number_in n.q) i c % p) (sym width-now)
      (λ i c il cl. ap (λ z. z % p) (left-column i c il (omega arith))
      ∙ product-of p t combined i (skip v c) il (skip-below v c w vl cl)
      ∙ ap (λ z. z % p) (sum_on-ext everything m (λ k. entries p t i (w + k) * number_in t.q k (skip v c))
      (λ k. entries p n i (w - 1 + k) * number_in n.q k c)
      (λ k kl _. ap (λ z. z * number_in t.q k (skip v c)) (sym (s-left i k il kl))
      ∙ ap (λ z. entries p n i (w - 1 + k) * z) (sym (q.numbers k c)))))))

  pub column-left-told : IsTableWithoutColumn p t n v
  column-left-told = record {
    q_is = q;
    columns_are = λ i j il jl. part-within i (sparse_rows n.q) j n.q.width (entries p n i j) (omega (arith, q.rows_same)) jl
        ∙ left-column i j il (omega (arith, width-now)) ∙ sym (part-within i m (skip v j) w (entries p t i (skip v j)) il
        (skip-below v j w vl (omega (arith, width-now))));
    basic_is = alike.basic_is;
  }
