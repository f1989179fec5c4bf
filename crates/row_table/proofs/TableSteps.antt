-- A table of P and S, its parts changed one by one.
use Rattle.std.proofs.Common.{◌≡◌, ℕ, ◌+◌, ◌-◌, ◌*◌, ◌%◌, ◌<◌, ◌≤◌, ◌≢◌, false, cond, eqb, ltb, List, [], length, map, slice_index, slice_index_or, refl, zero}
use Rattle.std.proofs.Common.{suc, inl, inr, ◌∷◌, ap, sym, subst, ◌∙◌, arith}
use Rattle.std.proofs.lemmas.List.{length-map, length_push, length-take, length-set}
use Rattle.std.proofs.lemmas.List.Edits.{length-remove}
use Rattle.std.proofs.lemmas.Bool.Decides.{nat_tests}
use Rattle.std.proofs.Math.Nat.{zero-mod}
use Rattle.residue_theory.proofs.ResidueLaws.{agree-add, vanishes-mul}
use Rattle.row_table.specs.Reductions.{IsReduced}
use Rattle.residue_theory.proofs.SumLaws.{nat_cases}
use Rattle.residue_theory.specs.Sums.{sum_below}
use Rattle.linear_algebra.specs.Parts.{skip, unskip}
use Rattle.linear_algebra_laws.proofs.SkipLaws.{skip-first}
use Rattle.sparse_q.specs.Rows.{Item, number_at, columns_raised}
use Rattle.sparse_q.specs.Tables.{SparseTable, IsColumnTaken, number_in, sparse_rows, with_empty_column, without_table_row}
use Rattle.sparse_q.proofs.EditLaws.{raised-none, raised-number}
use Rattle.row_table.specs.Places.{last_at}
use Rattle.row_table.specs.PlaceEdits.{ArePlacedAlike, places_with_row, places_with_last_at, places_with_column, places_without_column}
use Rattle.row_table.specs.PutOffs.{Kept, HasColumns, HasRows, actual}
use Rattle.row_table.specs.Layouts.{Layout, IsLayout, all, layout_places, layout_with_column, layout_with_row, layout_without_column, layout_without_row}
use Rattle.row_table.specs.Layouts.{rows_of_layout}
use Rattle.row_table.specs.RowTables.{Combined, IsCombined, entries, p_part, s_part}
use Rattle.row_table.specs.TableEdits.{IsQWithColumn, IsQWithRow, IsQWithoutColumn, IsQWithoutRow, IsTableWithColumn, IsTableWithRow, IsTableWithoutColumn}
use Rattle.row_table.specs.TableEdits.{IsTableWithoutRow, basic_of, taken}
use Rattle.row_table.proofs.LayoutEdits.{column-alike, column-gone-alike, row-alike, row-gone-alike, removed-list}
use Rattle.row_table.proofs.PlaceEdits.{last_at-below, last_at-here, last_at-other}
use Rattle.row_table.proofs.RowTableLaws.{part-within}
use Rattle.row_table.proofs.RowJoins.{row-joined, row-joined-told}
use Rattle.row_table.proofs.ColumnJoins.{column-joined, column-joined-told}
use Rattle.row_table.proofs.ColumnLeaves.{column-left, column-left-told}
use Rattle.row_table.proofs.RowLeaves.{left-row, row-left}

abbrev pub parts : Combined → SparseTable → Kept → Layout → Combined
parts t q kept layout = record {
  q = q;
  kept = kept;
  layout = layout;
  row_room = t.row_room;
  column_room = t.column_room;
}

-- ---- a row joins
module _ (p : ℕ) (above : 1 < p) (t : Combined) (q : SparseTable) (kept : Kept) (layout : Layout) (e v len : ℕ) (x : ℕ → ℕ)
    (combined : IsCombined p t) (laid : IsLayout t.layout) (el : e ≤ sparse_rows t.q) (v-is : v ≡ t.q.width + e)
    (len-is : len ≡ t.q.width) (layout-is : layout ≡ layout_with_row t.layout v) (q-is : IsQWithRow t.q q e x)
    (rows : kept.rows ≡ t.kept.rows + 1) (columns : kept.columns ≡ t.kept.columns)
    (small : (c : ℕ) → c < len → x c < p)
    (stays : (i j : ℕ) → i < t.kept.rows → j < t.kept.columns → actual p kept i j % p ≡ actual p t.kept i j % p)
    (joins : (c : ℕ) → c < all t.layout → (layout_places t.layout).is_unit c ≡ false →
    actual p kept t.kept.rows ((layout_places t.layout).slot c) % p ≡ (sum_below t.kept.rows (λ i.
    taken p len (basic_of t) x i * actual p t.kept i ((layout_places t.layout).slot c)) + cond (ltb c len) (x c) 0) % p) where
  all-is : all t.layout ≡ t.q.width + sparse_rows t.q
  all-is = omega (arith, combined.layout_rows, combined.layout_columns)

  rows-now : rows_of_layout layout ≡ sparse_rows t.q + 1
  rows-now = ap rows_of_layout layout-is ∙ length_push (map (skip v) t.layout.basic) v
      ∙ ap (λ k. k + 1) (length-map t.layout.basic (skip v) ∙ combined.layout_rows)

  columns-now : layout.columns ≡ t.q.width
  columns-now = ap (λ (l : Layout). l.columns) layout-is ∙ combined.layout_columns

  alike-now : ArePlacedAlike (sparse_rows t.q + 1) (places_with_row (sparse_rows t.q) (t.q.width + e) (layout_places t.layout))
      (layout_places layout)
  alike-now = subst (λ l. ArePlacedAlike (sparse_rows t.q + 1)
      (places_with_row (sparse_rows t.q) (t.q.width + e) (layout_places t.layout)) (layout_places l)) (sym layout-is)
      (subst (λ u. ArePlacedAlike (sparse_rows t.q + 1)
      (places_with_row (sparse_rows t.q) u (layout_places t.layout)) (layout_places (layout_with_row t.layout v))) v-is
      (subst (λ m. ArePlacedAlike (m + 1) (places_with_row m v (layout_places t.layout))
      (layout_places (layout_with_row t.layout v))) combined.layout_rows
      (row-alike t.layout v laid (omega (arith, all-is, v-is)))))

  joins-now : (c : ℕ) → c < t.q.width + sparse_rows t.q → (layout_places t.layout).is_unit c ≡ false →
      actual p kept (sparse_rows t.q) ((layout_places t.layout).slot c) % p ≡ (sum_below (sparse_rows t.q) (λ i.
      taken p t.q.width (basic_of t) x i * actual p t.kept i ((layout_places t.layout).slot c))
      + cond (ltb c t.q.width) (x c) 0) % p
  joins-now c cl free = subst (λ m. actual p kept m ((layout_places t.layout).slot c) % p ≡ (sum_below m (λ i.
      taken p t.q.width (basic_of t) x i * actual p t.kept i ((layout_places t.layout).slot c))
      + cond (ltb c t.q.width) (x c) 0) % p) combined.kept_rows
      (subst (λ w. actual p kept t.kept.rows ((layout_places t.layout).slot c) % p ≡ (sum_below t.kept.rows (λ i.
      taken p w (basic_of t) x i * actual p t.kept i ((layout_places t.layout).slot c))
      + cond (ltb c w) (x c) 0) % p) len-is (joins c (omega (arith, all-is, cl)) free))

  pub row-step : IsCombined p (parts t q kept layout)
  row-step = row-joined p above t (parts t q kept layout) e x combined el (λ j jl. small j (omega (arith, len-is, jl))) q-is
      (rows ∙ ap (λ k. k + 1) combined.kept_rows) (columns ∙ combined.kept_columns) rows-now columns-now alike-now
      (λ i j il jl. stays i j (omega (arith, combined.kept_rows, il)) (omega (arith, combined.kept_columns, jl))) joins-now

  pub row-step-told : IsTableWithRow p t (parts t q kept layout) e x
  row-step-told = row-joined-told p above t (parts t q kept layout) e x combined el (λ j jl. small j (omega (arith, len-is, jl))) q-is
      (rows ∙ ap (λ k. k + 1) combined.kept_rows) (columns ∙ combined.kept_columns) rows-now columns-now alike-now
      (λ i j il jl. stays i j (omega (arith, combined.kept_rows, il)) (omega (arith, combined.kept_columns, jl))) joins-now

-- ---- a row leaves
module _ (p : ℕ) (t : Combined) (q : SparseTable) (kept : Kept) (layout : Layout) (e k : ℕ) (combined : IsCombined p t)
    (laid : IsLayout t.layout) (el : e < sparse_rows t.q) (kl : k < sparse_rows t.q) (basic : basic_of t k ≡ t.q.width + e)
    (layout-is : layout ≡ layout_without_row t.layout k) (q-is : q ≡ without_table_row t.q e)
    (rows : HasRows p t.kept kept (t.kept.rows - 1) (last_at k (t.kept.rows - 1))) where
  q-without : IsQWithoutRow t.q q e
  q-without = record {
    rows_are = ap (λ (m : SparseTable). sparse_rows m + 1) q-is ∙ length-remove t.q.rows e el;
    width_same = ap (λ (m : SparseTable). m.width) q-is;
    numbers = λ i j. ap (λ (m : SparseTable). number_in m i j) q-is
        ∙ ap (λ (f : ℕ → List Item). number_at (f i) j) (removed-list [] t.q.rows e el);
  }

  rows-left : rows_of_layout layout ≡ sparse_rows t.q - 1
  rows-left = ap rows_of_layout layout-is ∙ length-map _ (unskip (slice_index t.layout.basic k))
      ∙ length-take _ _ ∙ omega (arith, combined.layout_rows, length-set t.layout.basic k (slice_index t.layout.basic (length t.layout.basic - 1)))

  columns-left : layout.columns ≡ t.q.width
  columns-left = ap (λ (l : Layout). l.columns) layout-is ∙ combined.layout_columns

  alike-left : ArePlacedAlike (sparse_rows t.q - 1) (places_with_last_at k (sparse_rows t.q) (basic_of t k) (layout_places t.layout))
      (layout_places layout)
  alike-left = subst (λ l. ArePlacedAlike (sparse_rows t.q - 1)
      (places_with_last_at k (sparse_rows t.q) (basic_of t k) (layout_places t.layout)) (layout_places l)) (sym layout-is)
      (subst (λ m. ArePlacedAlike (m - 1) (places_with_last_at k m (basic_of t k) (layout_places t.layout))
      (layout_places (layout_without_row t.layout k))) combined.layout_rows
      (row-gone-alike t.layout k laid (omega (arith, combined.layout_rows, kl))))

  moved-left : (i j : ℕ) → i < sparse_rows t.q - 1 → j < t.q.width →
      actual p kept i j ≡ actual p t.kept (last_at k (sparse_rows t.q - 1) i) j
  moved-left i j il jl =
      let low = last_at-below (sparse_rows t.q) t.q.width (t.q.width + sparse_rows t.q) (layout_places t.layout) k combined.placed kl i il in
      rows.entries i j (omega (arith, combined.kept_rows, il))
      (subst (λ m. last_at k (m - 1) i < m) (sym combined.kept_rows) low.0) (omega (arith, combined.kept_columns, jl))
      ∙ ap (λ m. actual p t.kept (last_at k (m - 1) i) j) combined.kept_rows

  pub row-out-step : IsCombined p (parts t q kept layout)
  row-out-step = row-left p t (parts t q kept layout) e k combined el kl basic q-without
      (rows.rows_are ∙ ap (λ m. m - 1) combined.kept_rows) (rows.columns_same ∙ combined.kept_columns) rows-left columns-left
      alike-left moved-left

  pub row-out-entry : (i j : ℕ) → i < sparse_rows q → j < t.q.width →
      p_part p (parts t q kept layout) i j ≡ p_part p t (last_at k (sparse_rows q) i) j
  row-out-entry i j il jl =
      let less : sparse_rows q ≡ sparse_rows t.q - 1 = omega (arith, q-without.rows_are) in
      let low = last_at-below (sparse_rows t.q) t.q.width (t.q.width + sparse_rows t.q) (layout_places t.layout) k combined.placed kl i
      (omega (arith, less, il)) in
      part-within i (sparse_rows q) j q.width (entries p (parts t q kept layout) i j) il (omega (arith, q-without.width_same, jl))
      ∙ left-row p t (parts t q kept layout) e k combined el kl basic q-without
      (rows.rows_are ∙ ap (λ m. m - 1) combined.kept_rows) (rows.columns_same ∙ combined.kept_columns) rows-left columns-left
      alike-left moved-left i j (omega (arith, less, il)) (omega (arith, jl, el))
      ∙ ap (entries p t (last_at k (sparse_rows t.q - 1) i)) (skip-first (t.q.width + e) j (omega (arith, jl)))
      ∙ sym (part-within (last_at k (sparse_rows t.q - 1) i) (sparse_rows t.q) j t.q.width
      (entries p t (last_at k (sparse_rows t.q - 1) i) j) low.0 jl)
      ∙ ap (λ m. p_part p t (last_at k m i) j) (sym less)

  pub row-out-told : IsTableWithoutRow p t (parts t q kept layout) e k
  row-out-told = record {
    q_is = q-without;
    columns_stay = λ i j il jl z. ap (λ y. y % p) (row-out-entry i j il jl);
    rows_stay = λ i j il jl z. ap (λ y. y % p) (row-out-entry i j il jl);
    basic_is = λ i il. alike-left.basic_is i (omega (arith, q-without.rows_are, il))
        ∙ ap (λ v. unskip v (basic_of t (last_at k (sparse_rows t.q - 1) i))) basic
        ∙ ap (λ m. unskip (t.q.width + e) (basic_of t (last_at k m i)))
        (let g : sparse_rows t.q - 1 ≡ sparse_rows q = omega (arith, q-without.rows_are) in g);
  }

-- ---- a column of zeros joins
module _ (p : ℕ) (t : Combined) (q : SparseTable) (kept : Kept) (layout : Layout) (v : ℕ) (combined : IsCombined p t)
    (laid : IsLayout t.layout) (vl : v ≤ t.q.width) (layout-is : layout ≡ layout_with_column t.layout v)
    (q-is : q ≡ with_empty_column t.q v) (columns : HasColumns p t.kept kept (t.kept.columns + 1) (λ j. j)) where
  q-with : IsQWithColumn t.q q v
  q-with = record {
    rows_same = ap sparse_rows q-is ∙ length-map t.q.rows (columns_raised v);
    width_are = ap (λ (m : SparseTable). m.width) q-is;
    here = λ i. ap (λ (m : SparseTable). number_in m i v) q-is ∙ each i v ∙ raised-none v (slice_index_or t.q.rows i []);
    others = λ i j. ap (λ (m : SparseTable). number_in m i (skip v j)) q-is ∙ each i (skip v j)
        ∙ raised-number v (slice_index_or t.q.rows i []) j;
  }
    where
      each : (i j : ℕ) → number_at (slice_index_or (map (columns_raised v) t.q.rows) i []) j
          ≡ number_at (columns_raised v (slice_index_or t.q.rows i [])) j
      each i j = ap (λ r. number_at r j) (mapped (columns_raised v) t.q.rows i)
        where
          mapped : (f : List Item → List Item) (rs : List (List Item)) (i : ℕ) →
              slice_index_or (map (columns_raised v) rs) i [] ≡ columns_raised v (slice_index_or rs i [])
          mapped f [] i = refl
          mapped f (r ∷ rs) zero = refl
          mapped f (r ∷ rs) (suc i) = mapped f rs i

  column-rows : rows_of_layout layout ≡ sparse_rows t.q
  column-rows = ap rows_of_layout layout-is ∙ length-map t.layout.basic (skip v) ∙ combined.layout_rows

  column-columns : layout.columns ≡ t.q.width + 1
  column-columns = ap (λ (l : Layout). l.columns) layout-is ∙ ap (λ k. k + 1) combined.layout_columns

  alike-with : ArePlacedAlike (sparse_rows t.q) (places_with_column t.q.width v (layout_places t.layout)) (layout_places layout)
  alike-with = subst (λ l. ArePlacedAlike (sparse_rows t.q) (places_with_column t.q.width v (layout_places t.layout))
      (layout_places l)) (sym layout-is)
      (subst (λ n. ArePlacedAlike (sparse_rows t.q) (places_with_column n v (layout_places t.layout))
      (layout_places (layout_with_column t.layout v))) combined.layout_columns
      (subst (λ m. ArePlacedAlike m (places_with_column t.layout.columns v (layout_places t.layout))
      (layout_places (layout_with_column t.layout v))) combined.layout_rows
      (column-alike t.layout v laid (omega (arith, combined.layout_columns, vl)))))

  stays-with : (i j : ℕ) → i < sparse_rows t.q → j < t.q.width → actual p kept i j ≡ actual p t.kept i j
  stays-with i j il jl = columns.entries i j (omega (arith, combined.kept_rows, il)) (omega (arith, combined.kept_columns, jl))
      (omega (arith, combined.kept_columns, jl))

  zero-with : (i : ℕ) → i < sparse_rows t.q → actual p kept i t.q.width ≡ 0
  zero-with i il = columns.zero i t.q.width (omega (arith, combined.kept_rows, il)) (omega (arith, combined.kept_columns))
      (omega (arith, combined.kept_columns))

  pub column-step : IsCombined p (parts t q kept layout)
  column-step = column-joined p t (parts t q kept layout) v combined vl q-with (columns.rows_same ∙ combined.kept_rows)
      (columns.columns_are ∙ ap (λ k. k + 1) combined.kept_columns) column-rows column-columns alike-with stays-with zero-with

  pub column-step-told : IsTableWithColumn p t (parts t q kept layout) v
  column-step-told = column-joined-told p t (parts t q kept layout) v combined vl q-with (columns.rows_same ∙ combined.kept_rows)
      (columns.columns_are ∙ ap (λ k. k + 1) combined.kept_columns) column-rows column-columns alike-with stays-with zero-with

-- ---- a column leaves
module _ (p : ℕ) (t : Combined) (q : SparseTable) (kept : Kept) (layout : Layout) (v s : ℕ) (combined : IsCombined p t)
    (laid : IsLayout t.layout) (vl : v < t.q.width) (free : (layout_places t.layout).is_unit v ≡ false)
    (slot : s ≡ (layout_places t.layout).slot v) (layout-is : layout ≡ layout_without_column t.layout v)
    (q-is : IsColumnTaken t.q q v) (columns : HasColumns p t.kept kept (t.kept.columns - 1) (last_at s (t.kept.columns - 1))) where
  q-cut : IsQWithoutColumn t.q q v
  q-cut = record { rows_same = q-is.rows_same; width_are = q-is.width_less; numbers = q-is.numbers }

  cut-rows : rows_of_layout layout ≡ sparse_rows t.q
  cut-rows = ap rows_of_layout layout-is ∙ length-map t.layout.basic (unskip v) ∙ combined.layout_rows

  cut-columns : layout.columns ≡ t.q.width - 1
  cut-columns = ap (λ (l : Layout). l.columns) layout-is ∙ ap (λ k. k - 1) combined.layout_columns

  alike-cut : ArePlacedAlike (sparse_rows t.q) (places_without_column t.q.width v (layout_places t.layout)) (layout_places layout)
  alike-cut = subst (λ l. ArePlacedAlike (sparse_rows t.q) (places_without_column t.q.width v (layout_places t.layout))
      (layout_places l)) (sym layout-is)
      (subst (λ n. ArePlacedAlike (sparse_rows t.q) (places_without_column n v (layout_places t.layout))
      (layout_places (layout_without_column t.layout v))) combined.layout_columns
      (subst (λ m. ArePlacedAlike m (places_without_column t.layout.columns v (layout_places t.layout))
      (layout_places (layout_without_column t.layout v))) combined.layout_rows
      (column-gone-alike t.layout v laid (omega (arith, combined.layout_columns, vl)) free)))

  moved-cut : (i j : ℕ) → i < sparse_rows t.q → j < t.q.width - 1 →
      actual p kept i j ≡ actual p t.kept i (last_at ((layout_places t.layout).slot v) (t.q.width - 1) j)
  moved-cut i j il jl =
      subst (λ w. actual p kept i j ≡ actual p t.kept i (last_at ((layout_places t.layout).slot v) (w - 1) j)) combined.kept_columns
      (subst (λ x. actual p kept i j ≡ actual p t.kept i (last_at x (t.kept.columns - 1) j)) slot
      (columns.entries i j (omega (arith, combined.kept_rows, il)) (omega (arith, combined.kept_columns, jl))
      (low s t.kept.columns j (omega (arith, combined.kept_columns, jl)))))
    where
      low : (k w j : ℕ) → j < w - 1 → last_at k (w - 1) j < w
      low k w j l = grind (arith, nat_tests)

  pub cut-step : IsCombined p (parts t q kept layout)
  cut-step = column-left p t (parts t q kept layout) v combined vl free q-cut (columns.rows_same ∙ combined.kept_rows)
      (columns.columns_are ∙ ap (λ k. k - 1) combined.kept_columns) cut-rows cut-columns alike-cut moved-cut

  pub cut-step-told : IsTableWithoutColumn p t (parts t q kept layout) v
  cut-step-told = column-left-told p t (parts t q kept layout) v combined vl free q-cut (columns.rows_same ∙ combined.kept_rows)
      (columns.columns_are ∙ ap (λ k. k - 1) combined.kept_columns) cut-rows cut-columns alike-cut moved-cut

-- ---- what an exchange at row k, with multiples c, leaves of rows to which nothing is added
pub zero-rows-stay : (p m n : ℕ) (a b : ℕ → ℕ → ℕ) (r : ℕ) (c : ℕ → ℕ) → IsReduced p m n a b r c → (i j : ℕ) → i < m → j < n →
    i ≢ r → c i % p ≡ 0 → b i j % p ≡ a i j % p
zero-rows-stay p m n a b r c reduced i j il jl ne z =
    sym (reduced.others i j il jl ne
    ∙ agree-add p (b i j) (b i j) (c i * b r j) 0 refl (ap (λ y. y % p) (let q : c i * b r j ≡ b r j * c i = omega arith in q)
    ∙ vanishes-mul p (b r j) (c i) z ∙ sym (zero-mod p))
    ∙ ap (λ y. y % p) (omega arith))

-- ---- a row that leaves after its column of S was made a unit column
pub out-after : (p : ℕ) (t mid n : Combined) (e k : ℕ) → k < sparse_rows t.q → mid.q ≡ t.q →
    ((i : ℕ) → i < sparse_rows t.q → basic_of mid i ≡ cond (eqb i k) (t.q.width + e) (basic_of t i)) →
    ((i j : ℕ) → i < sparse_rows t.q → j < t.q.width → p_part p t k j % p ≡ 0 → p_part p mid i j % p ≡ p_part p t i j % p) →
    ((i j : ℕ) → i < sparse_rows t.q → j < t.q.width → i ≢ k → s_part p t i e % p ≡ 0 →
    p_part p mid i j % p ≡ p_part p t i j % p) →
    IsTableWithoutRow p mid n e k →
    ((i j : ℕ) → i < sparse_rows n.q → j < t.q.width → p_part p n i j ≡ p_part p mid (last_at k (sparse_rows n.q) i) j) →
    IsTableWithoutRow p t n e k
out-after p t mid n e k kl q basic columns rows out told = record {
  q_is = subst (λ s. IsQWithoutRow s n.q e) q out.q_is;
  columns_stay = λ i j il jl z. ap (λ y. y % p) (told i j il jl) ∙ columns (last_at k (sparse_rows n.q) i) j (low i il).0 jl z;
  rows_stay = λ i j il jl z. ap (λ y. y % p) (told i j il jl)
      ∙ rows (last_at k (sparse_rows n.q) i) j (low i il).0 jl (low i il).1 z;
  basic_is = λ i il. out.basic_is i il ∙ ap (λ (s : SparseTable). unskip (s.width + e) (basic_of mid (last_at k (sparse_rows n.q) i))) q
      ∙ ap (unskip (t.q.width + e)) (basic (last_at k (sparse_rows n.q) i) (low i il).0
      ∙ apart (last_at k (sparse_rows n.q) i) (t.q.width + e) (basic_of t (last_at k (sparse_rows n.q) i)) (low i il).1);
}
  where
    apart : (i x y : ℕ) → i ≢ k → cond (eqb i k) x y ≡ y
    apart i x y ne = grind (arith, nat_tests)

    less : sparse_rows n.q + 1 ≡ sparse_rows t.q
    less = out.q_is.rows_are ∙ ap sparse_rows q

    low : (i : ℕ) → i < sparse_rows n.q → (last_at k (sparse_rows n.q) i < sparse_rows t.q) × (last_at k (sparse_rows n.q) i ≢ k)
    low i il = elim (nat_cases i k) [
      | inl g ↦ subst (λ x. (x < sparse_rows t.q) × (x ≢ k)) (sym (ap (last_at k (sparse_rows n.q)) g ∙ last_at-here k (sparse_rows n.q)))
          (omega (arith, less), λ f. omega (arith, less, il, g, f))
      | inr ne ↦ subst (λ x. (x < sparse_rows t.q) × (x ≢ k)) (sym (last_at-other k (sparse_rows n.q) i ne)) (omega (arith, less, il), ne)
    ]
