-- A table of P and S where a row leaves.
use Rattle.std.proofs.Common.{◌≡◌, ℕ, ◌+◌, ◌-◌, ◌*◌, ◌%◌, ◌<◌, ap, sym, subst, ◌∙◌, arith}
use Rattle.residue_theory.specs.Sets.{everything}
use Rattle.residue_theory.specs.Sums.{sum_below}
use Rattle.residue_theory.proofs.SumLaws.{sum_on-ext}
use Rattle.linear_algebra.specs.Parts.{skip}
use Rattle.linear_algebra.specs.Products.{product, identity}
use Rattle.linear_algebra_laws.proofs.Entries.{identity-other}
use Rattle.linear_algebra_laws.proofs.SkipLaws.{skip-first}
use Rattle.sparse_q.specs.Tables.{sparse_rows, number_in}
use Rattle.row_table.specs.Places.{Places, HaveSlots, last_at}
use Rattle.row_table.specs.PlaceEdits.{ArePlacedAlike, places_with_last_at}
use Rattle.row_table.specs.PutOffs.{actual}
use Rattle.row_table.specs.Layouts.{rows_of_layout, layout_places}
use Rattle.row_table.specs.RowTables.{Combined, entries, s_part, IsCombined}
use Rattle.row_table.specs.TableEdits.{IsQWithoutRow, basic_of}
use Rattle.row_table.proofs.PlaceLaws.{whole-unit}
use Rattle.row_table.proofs.PlaceEdits.{alike-placed, alike-whole, last-takes, last-takes-whole, last_at-below}
use Rattle.row_table.proofs.TableEdits.{sum-split, made-combined, product-of, skip-shifted}

-- ---- a row leaves, where its column of S is the unit column of row k
module _ (p : ℕ) (t n : Combined) (e k : ℕ) (combined : IsCombined p t) (el : e < sparse_rows t.q) (kl : k < sparse_rows t.q)
    (basic : basic_of t k ≡ t.q.width + e) (q : IsQWithoutRow t.q n.q e)
    (rows : n.kept.rows ≡ sparse_rows t.q - 1) (columns : n.kept.columns ≡ t.q.width)
    (layout_rows : rows_of_layout n.layout ≡ sparse_rows t.q - 1) (layout_columns : n.layout.columns ≡ t.q.width)
    (alike : ArePlacedAlike (sparse_rows t.q - 1) (places_with_last_at k (sparse_rows t.q) (basic_of t k) (layout_places t.layout))
    (layout_places n.layout))
    (moved : (i j : ℕ) → i < sparse_rows t.q - 1 → j < t.q.width →
    actual p n.kept i j ≡ actual p t.kept (last_at k (sparse_rows t.q - 1) i) j) where
  abbrev m : ℕ
  m = sparse_rows t.q

  abbrev w : ℕ
  w = t.q.width

  abbrev s : Places
  s = layout_places t.layout

  rows-now : sparse_rows n.q ≡ m - 1
  rows-now = omega (arith, q.rows_are)

  abbrev at : ℕ → ℕ
  at i = last_at k (m - 1) i

  pub left-row : (i c : ℕ) → i < m - 1 → c < w + m - 1 → entries p n i c ≡ entries p t (at i) (skip (w + e) c)
  left-row i c il cl = alike-whole (m - 1) _ _ alike (actual p n.kept) i c
      ∙ last-takes-whole m w (w + m) s k combined.placed kl (actual p t.kept) (actual p n.kept) moved i c il cl
      ∙ ap (λ v. entries p t (at i) (skip v c)) basic

  -- column e of S is zero at the others
  cleared : (i : ℕ) → i < m - 1 → entries p t (at i) (w + e) ≡ 0
  cleared i il = let low = last_at-below m w (w + m) s k combined.placed kl i il in
      ap (entries p t (at i)) (sym basic) ∙ whole-unit s (actual p t.kept) (at i) (s.basic k) (combined.placed.basic_unit k kl)
      ∙ ap (identity (at i)) (combined.placed.basic_row k kl) ∙ identity-other (at i) k low.1

  s-row : (i h : ℕ) → i < m - 1 → h < m - 1 → entries p n i (w + h) ≡ entries p t (at i) (w + skip e h)
  s-row i h il hl = left-row i (w + h) il (omega arith) ∙ ap (entries p t (at i)) (skip-shifted w e h)

  row-product : (i c : ℕ) → i < m - 1 → c < w →
      entries p n i c % p ≡ product (m - 1) (λ i h. entries p n i (w + h)) (number_in n.q) i c % p
  row-product i c il cl = let low = last_at-below m w (w + m) s k combined.placed kl i il in
      ap (λ z. z % p) (left-row i c il (omega arith) ∙ ap (entries p t (at i)) (skip-first (w + e) c (omega arith)))
      ∙ product-of p t combined (at i) c low.0 cl
      ∙ ap (λ z. z % p) (ap (λ r. product r (s_part p t) (number_in t.q) (at i) c) (let g : m ≡ m - 1 + 1 = omega arith in g)
      ∙ sum-split (m - 1) e (λ h. entries p t (at i) (w + h) * number_in t.q h c) (omega arith)
      ∙ ap (λ z. sum_below (m - 1) (λ h. entries p t (at i) (w + skip e h) * number_in t.q (skip e h) c) + z * number_in t.q e c)
      (cleared i il)
      ∙ (let g : sum_below (m - 1) (λ h. entries p t (at i) (w + skip e h) * number_in t.q (skip e h) c) + 0 * number_in t.q e c
      ≡ sum_below (m - 1) (λ h. entries p t (at i) (w + skip e h) * number_in t.q (skip e h) c) = omega arith in g)
      ∙ sum_on-ext everything (m - 1) (λ h. entries p t (at i) (w + skip e h) * number_in t.q (skip e h) c)
      (λ h. entries p n i (w + h) * number_in n.q h c)
      (λ h hl _. ap (λ z. z * number_in t.q (skip e h) c) (sym (s-row i h il hl))
      ∙ ap (λ z. entries p n i (w + h) * z) (sym (q.numbers h c))))

  pub row-left : IsCombined p n
  row-left = made-combined p n (rows ∙ sym rows-now) (columns ∙ sym q.width_same) (layout_rows ∙ sym rows-now)
      (layout_columns ∙ sym q.width_same)
      (subst (λ r. HaveSlots r n.q.width (n.q.width + r) (layout_places n.layout)) (sym rows-now)
      (subst (λ c. HaveSlots (m - 1) c (c + (m - 1)) (layout_places n.layout)) (sym q.width_same)
      (subst (λ z. HaveSlots (m - 1) w z (layout_places n.layout)) (let g : w + m - 1 ≡ w + (m - 1) = omega arith in g)
      (alike-placed (m - 1) w (w + m - 1) _ _ alike (last-takes m w (w + m) s k combined.placed kl)))))
      (subst (λ r. (i c : ℕ) → i < r → c < n.q.width → entries p n i c % p ≡ product r (s_part p n) (number_in n.q) i c % p)
      (sym rows-now)
      (subst (λ u. (i c : ℕ) → i < m - 1 → c < u → entries p n i c % p
      ≡ product (m - 1) (λ i h. entries p n i (u + h)) (number_in n.q) i c % p) (sym q.width_same) row-product))
