-- Sparse matrices: what a change of one row does, and matrices that are made row by row.
use Rattle.std.proofs.Common.{◌≡◌, ℕ, ◌+◌, ◌*◌, ◌%◌, ◌<◌, List, [], map, length, slice_index_or, slice_set, refl, sym, subst, ap, ◌∙◌, arith}
use Rattle.std.proofs.lemmas.List.{map-set, get_or-map, get_or-set_same, get_or-set_other, length-map, length-set}
use Rattle.sparse_q.specs.Rows.{Row, number_at, IsSum, IsMultiple}
use Rattle.sparse_q.specs.Storage.{HasShelf}
use Rattle.sparse_q.specs.Tables.{SparseTable, sparse_rows, number_in, IsRowSet}

-- the table of rows, with room for so many rows and columns
abbrev pub roomy_table : ℕ → List Row → ℕ → ℕ → SparseTable
roomy_table w rows row_room column_room = record {
  width = w;
  rows = map (λ r. r.items) rows;
  row_room = row_room;
  column_room = column_room;
}

-- and with none
abbrev pub table_of : ℕ → List Row → SparseTable
table_of w rows = roomy_table w rows 0 0

module _ (w : ℕ) (rows : List Row) {o v : ℕ} (m : SparseTable) (view : roomy_table w rows o v ≡ m) (i : ℕ) (l : i < sparse_rows m) where
  within : i < length rows
  within = omega (arith, length-map rows (λ (r : Row). r.items), ap sparse_rows view)

  pub row-at : (x : Row) → x ≡ slice_index_or rows i x → (j : ℕ) → number_at x.items j ≡ number_in m i j
  row-at x e j = ap (λ (r : Row). number_at r.items j) e
      ∙ ap (λ zs. number_at zs j) (sym (get_or-map (λ r. r.items) rows i x [] within)) ∙ ap (λ t. number_in t i j) view

  pub row-set : (row : Row) (f : ℕ → ℕ) → ((j : ℕ) → number_at row.items j ≡ f j) →
      IsRowSet m (roomy_table w (slice_set rows i row) o v) i f
  row-set row f is = subst (λ t. IsRowSet t (roomy_table w (slice_set rows i row) o v) i f) view (record {
    size = record {
      rows_are = ap (λ zs. length zs) put ∙ length-set (map (λ r. r.items) rows) i row.items;
      width_is =
          refl;
    };
    row_room = refl;
    column_room = refl;
    changed = λ j. ap (λ zs. number_at zs j) (ap (λ rs. slice_index_or rs i []) put
        ∙ get_or-set_same (map (λ r. r.items) rows) i row.items []
        (omega (arith, within, length-map rows (λ (r : Row). r.items)))) ∙ is j;
    others = λ t j ne. ap (λ zs. number_at zs j) (ap (λ rs. slice_index_or rs t []) put
        ∙ get_or-set_other (map (λ r. r.items) rows) i t row.items [] ne);
  })
    where
      put : map (λ r. r.items) (slice_set rows i row) ≡ slice_set (map (λ r. r.items) rows) i row.items
      put = map-set (λ r. r.items) rows i row

  pub row-multiple : (p k : ℕ) (x now : Row) → x ≡ slice_index_or rows i x → IsMultiple p k x.items now.items →
      IsRowSet m (roomy_table w (slice_set rows i now) o v) i (λ j. k * number_in m i j % p)
  row-multiple p k x now e is = row-set now (λ j. k * number_in m i j % p)
      (λ j. is j ∙ ap (λ z. k * z % p) (row-at x e j))

  pub row-sum : (p k t : ℕ) (x y now : Row) → x ≡ slice_index_or rows i x →
      ((j : ℕ) → number_at y.items j ≡ number_in m t j) → IsSum p k x.items y.items now.items →
      IsRowSet m (roomy_table w (slice_set rows i now) o v) i (λ j. (number_in m i j + k * number_in m t j) % p)
  row-sum p k t x y now e other is =
      row-set now (λ j. (number_in m i j + k * number_in m t j) % p)
      (λ j. is j ∙ ap (λ z. (z + k * number_at y.items j) % p) (row-at x e j)
      ∙ ap (λ z. (number_in m i j + k * z) % p) (other j))

-- ---- a matrix with no room for more
pub no-shelf : (rows shelf : List Row) (spare rows_capacity shelf_capacity : ℕ) →
    HasShelf rows shelf spare 0 0 rows_capacity shelf_capacity
no-shelf rows shelf spare rows_capacity shelf_capacity = record {
  rows_wide = λ k d l. omega arith;
  shelf_wide = λ k d l. omega arith;
  spare_wide = omega arith;
  few = omega arith;
  enough = omega arith;
  rows_fit = omega arith;
  shelf_fits = omega arith;
}
