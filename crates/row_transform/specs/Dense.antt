-- How a dense tableau is kept.
use Rattle.std.specs.Prelude.{ℕ, ◌%◌, ◌<◌, ◌≤◌, ◌≡◌, ◌≢◌, true, length}
use Rattle.limits.specs.Limits.{column_limit}
use Rattle.bit_table.specs.Bits.{Bits}
use Rattle.linear_algebra.specs.Bases.{HasNoBase, IsBase}
use Rattle.sparse_q.specs.Tables.{number_in, sparse_rows}
use Rattle.row_table.specs.RowTables.{Combined, p_part, s_part, u_part}
use Rattle.row_transform.specs.Bases.{BaseLists, is_base, base_row}
use Rattle.row_table.specs.TableEdits.{basic_of}
use Rattle.row_transform.specs.Edits.{Room}
use Rattle.row_transform.specs.Tableaus.{TableauState}

-- the table of P and S, the base, and for how many rows and columns there is room
pub record Dense : Type 0 where
  pub table : Combined
  pub base : BaseLists
  pub row_room : ℕ
  pub column_room : ℕ

abbrev pub dense_state : ℕ → Dense → TableauState
dense_state modulus d = record {
  rows = sparse_rows d.table.q;
  columns = d.table.q.width;
  q = number_in d.table.q;
  s = s_part modulus d.table;
  u = u_part d.table;
  p = p_part modulus d.table;
  base = is_base d.base;
  row = base_row d.base;
}

-- each base column of P is the unit column of its row, as the table has it
pub record IsDense (modulus : ℕ) (d : Dense) : Type 0 where
  pub base_rows : length d.base.columns ≡ sparse_rows d.table.q
  pub base_columns : length d.base.rows ≡ d.table.q.width
  pub unit_columns : IsBase modulus (p_part modulus d.table) (sparse_rows d.table.q) d.table.q.width (is_base d.base)
      (base_row d.base)
  pub basic : (y : ℕ) → y < d.table.q.width → is_base d.base y ≡ true → basic_of d.table (base_row d.base y) ≡ y

-- each part has the room that the whole is told to have; b are the bits that list the entries
pub record HasDenseRoom (d : Dense) (b : Bits) : Type 0 where
  pub table_rows : d.row_room ≤ d.table.row_room
  pub table_columns : d.column_room ≤ d.table.column_room
  pub base_rows : d.row_room ≤ d.base.row_room
  pub base_columns : d.column_room ≤ d.base.column_room
  pub listed_rows : d.row_room ≤ b.size
  pub listed_columns : d.column_room ≤ b.rows
  pub few : d.row_room ≤ column_limit
  pub narrow : d.column_room ≤ column_limit

-- the room of a dense tableau
abbrev pub dense_room : Dense → Room
dense_room d = record { rows = d.row_room; columns = d.column_room }

-- row k has no base column
abbrev pub IsBareRow : Dense → ℕ → Type 0
IsBareRow d k = HasNoBase d.table.q.width (is_base d.base) (base_row d.base) k

-- row k has an entry in column e of S, and it has no base column, if there is such a row without one
pub record IsLeavingRow (p : ℕ) (d : Dense) (e k : ℕ) : Type 0 where
  pub below : k < sparse_rows d.table.q
  pub entry : s_part p d.table k e % p ≢ 0
  pub preferred : (i : ℕ) → i < sparse_rows d.table.q → s_part p d.table i e % p ≢ 0 → IsBareRow d i → IsBareRow d k
