-- How a sparse tableau is kept.
use Rattle.std.specs.Prelude.{ℕ, ◌≤◌, ◌≡◌, length}
use Rattle.limits.specs.Limits.{column_limit}
use Rattle.bit_table.specs.Bits.{Bits}
use Rattle.sparse_q.specs.Tables.{SparseTable, sparse_rows, number_in, HasSize}
use Rattle.row_table.specs.Reductions.{IsReduced}
use Rattle.row_transform.specs.Bases.{BaseLists, is_base, base_row}
use Rattle.row_transform.specs.Edits.{Room}
use Rattle.row_transform.specs.Tableaus.{TableauState, IsTableau}

-- the columns of Q as rows, P, S, the transpose V of U, and the base; and for how many rows and columns there is room
pub record Sparse : Type 0 where
  pub q : SparseTable
  pub p : SparseTable
  pub s : SparseTable
  pub v : SparseTable
  pub base : BaseLists
  pub room : Room

abbrev pub sparse_state : Sparse → TableauState
sparse_state t = record {
  rows = sparse_rows t.p;
  columns = t.p.width;
  q = λ i j. number_in t.q j i;
  s = number_in t.s;
  u = λ i j. number_in t.v j i;
  p = number_in t.p;
  base = is_base t.base;
  row = base_row t.base;
}

-- the sizes fit, and the matrices are a tableau
pub record IsSparse (modulus : ℕ) (t : Sparse) : Type 0 where
  pub q_size : HasSize t.p.width (sparse_rows t.p) t.q
  pub s_size : HasSize (sparse_rows t.p) (sparse_rows t.p) t.s
  pub v_size : HasSize (sparse_rows t.p) (sparse_rows t.p) t.v
  pub base_rows : length t.base.columns ≡ sparse_rows t.p
  pub base_columns : length t.base.rows ≡ t.p.width
  pub tableau : IsTableau modulus (sparse_state t)

-- m has room for so many rows and columns
pub record HasTableRoom (rows columns : ℕ) (m : SparseTable) : Type 0 where
  pub rows_fit : rows ≤ m.row_room
  pub columns_fit : columns ≤ m.column_room

-- n has the room of m
pub record HasSameRoom (m n : SparseTable) : Type 0 where
  pub row_room : n.row_room ≡ m.row_room
  pub column_room : n.column_room ≡ m.column_room

-- b is a reduced by row r with the factors k, in the room of a
pub record IsTableReduced (modulus : ℕ) (a b : SparseTable) (r : ℕ) (k : ℕ → ℕ) : Type 0 where
  pub size : HasSize (sparse_rows a) a.width b
  pub room : HasSameRoom a b
  pub reduced : IsReduced modulus (sparse_rows a) a.width (number_in a) (number_in b) r k

-- each part has the room of the tableau; the bits tell the entries of P and of V
pub record HasSparseRoom (t : Sparse) (entries u_entries : Bits) : Type 0 where
  pub few : t.room.rows ≤ column_limit
  pub narrow : t.room.columns ≤ column_limit
  pub q_room : HasTableRoom t.room.columns t.room.rows t.q
  pub p_room : HasTableRoom t.room.rows t.room.columns t.p
  pub s_room : HasTableRoom t.room.rows t.room.rows t.s
  pub v_room : HasTableRoom t.room.rows t.room.rows t.v
  pub base_rows : t.room.rows ≤ t.base.row_room
  pub base_columns : t.room.columns ≤ t.base.column_room
  pub entry_rows : t.room.rows ≤ entries.size
  pub entry_columns : t.room.columns ≤ entries.rows
  pub u_entry_rows : t.room.rows ≤ u_entries.size
  pub u_entry_columns : t.room.rows ≤ u_entries.rows
