-- P and S in one table, and U told by Q.
use Rattle.std.specs.Prelude.{ℕ, ◌+◌, ◌≤◌, ◌≡◌, cond, ltb, ◌&&◌}
use Rattle.linear_algebra.specs.Products.{product, Agree, IsInverse}
use Rattle.dense_q.specs.Tables.{height}
use Rattle.sparse_q.specs.Tables.{SparseTable, sparse_rows, number_in}
use Rattle.row_table.specs.Places.{HaveSlots, whole, with_units}
use Rattle.row_table.specs.PutOffs.{Kept, actual}
use Rattle.row_table.specs.Layouts.{Layout, rows_of_layout, layout_places}

-- Q, the table of those columns of [P | S] that are no unit columns, where each column stands, and for how many rows
-- and columns there is room
pub record Combined : Type 0 where
  pub q : SparseTable
  pub kept : Kept
  pub layout : Layout
  pub row_room : ℕ
  pub column_room : ℕ

-- [P | S]
abbrev pub entries : ℕ → Combined → ℕ → ℕ → ℕ
entries p t = whole (layout_places t.layout) (actual p t.kept)

-- P, and 0 outside
abbrev pub p_part : ℕ → Combined → ℕ → ℕ → ℕ
p_part p t i j = cond (ltb i (sparse_rows t.q) && ltb j t.q.width) (entries p t i j) 0

abbrev pub s_part : ℕ → Combined → ℕ → ℕ → ℕ
s_part p t i j = entries p t i (t.q.width + j)

-- U: the columns of [Q | 1] that are unit columns in [P | S]
abbrev pub u_part : Combined → ℕ → ℕ → ℕ
u_part t i j = with_units t.q.width (number_in t.q) i ((layout_places t.layout).basic j)

-- [P | S] is S * [Q | 1], and U is the inverse of S
pub record IsCombined (p : ℕ) (t : Combined) : Type 0 where
  pub kept_rows : t.kept.rows ≡ sparse_rows t.q
  pub kept_columns : t.kept.columns ≡ t.q.width
  pub layout_rows : rows_of_layout t.layout ≡ sparse_rows t.q
  pub layout_columns : t.layout.columns ≡ t.q.width
  pub placed : HaveSlots (sparse_rows t.q) t.q.width (t.q.width + sparse_rows t.q) (layout_places t.layout)
  pub product_is : Agree p (sparse_rows t.q) (t.q.width + sparse_rows t.q) (entries p t)
      (product (sparse_rows t.q) (s_part p t) (with_units t.q.width (number_in t.q)))
  pub inverse : IsInverse p (sparse_rows t.q) (s_part p t) (u_part t)

-- each part has the room that the whole is told to have; `space` is that of an item for each row
pub record HasTableRoom (t : Combined) (space : ℕ) : Type 0 where
  pub stored_rows : t.row_room ≤ height t.kept.stored
  pub stored_columns : t.column_room ≤ t.kept.stored.width
  pub layout_rows : t.row_room ≤ t.layout.row_room
  pub layout_columns : t.column_room ≤ t.layout.column_room
  pub q_rows : t.row_room ≤ t.q.row_room
  pub q_columns : t.column_room ≤ t.q.column_room
  pub space_rows : t.row_room ≤ space
