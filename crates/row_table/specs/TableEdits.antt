-- What an edit of Q makes of a table of P and S: a row or a column of Q comes or goes.
use Rattle.std.specs.Prelude.{ℕ, ◌+◌, ◌-◌, ◌%◌, ◌<◌, ◌≡◌, cond, ltb}
use Rattle.linear_algebra.specs.Parts.{skip, unskip}
use Rattle.sparse_q.specs.Tables.{SparseTable, sparse_rows, number_in}
use Rattle.row_table.specs.Places.{last_at}
use Rattle.row_table.specs.Layouts.{layout_places}
use Rattle.row_table.specs.RowTables.{Combined, p_part, s_part, u_part}

-- n is q with the row x put in as row e
pub record IsQWithRow (q n : SparseTable) (e : ℕ) (x : ℕ → ℕ) : Type 0 where
  pub rows_are : sparse_rows n ≡ sparse_rows q + 1
  pub width_same : n.width ≡ q.width
  pub here : (j : ℕ) → j < q.width → number_in n e j ≡ x j
  pub others : (i j : ℕ) → number_in n (skip e i) j ≡ number_in q i j

-- n is q without row e
pub record IsQWithoutRow (q n : SparseTable) (e : ℕ) : Type 0 where
  pub rows_are : sparse_rows n + 1 ≡ sparse_rows q
  pub width_same : n.width ≡ q.width
  pub numbers : (i j : ℕ) → number_in n i j ≡ number_in q (skip e i) j

-- n is q with a column of zeros put in as column v
pub record IsQWithColumn (q n : SparseTable) (v : ℕ) : Type 0 where
  pub rows_same : sparse_rows n ≡ sparse_rows q
  pub width_are : n.width ≡ q.width + 1
  pub here : (i : ℕ) → number_in n i v ≡ 0
  pub others : (i j : ℕ) → number_in n i (skip v j) ≡ number_in q i j

-- n is q without column v
pub record IsQWithoutColumn (q n : SparseTable) (v : ℕ) : Type 0 where
  pub rows_same : sparse_rows n ≡ sparse_rows q
  pub width_are : n.width + 1 ≡ q.width
  pub numbers : (i j : ℕ) → number_in n i j ≡ number_in q i (skip v j)

-- the column that is the unit column of a row
abbrev pub basic_of : Combined → ℕ → ℕ
basic_of t = (layout_places t.layout).basic

-- how many times each of the rows comes to a row x that joins: so often that x is zero at the columns of Q that are
-- unit columns. There are n columns
abbrev pub taken : ℕ → ℕ → (ℕ → ℕ) → (ℕ → ℕ) → ℕ → ℕ
taken p n basic x i = cond (ltb (basic i) n) (p - x (basic i)) 0

-- n is t with the row x put in as row e of Q, and as the last row of P, where it is zero at the unit columns of the
-- others
pub record IsTableWithRow (p : ℕ) (t n : Combined) (e : ℕ) (x : ℕ → ℕ) : Type 0 where
  pub q_is : IsQWithRow t.q n.q e x
  pub rows_stay : (i j : ℕ) → i < sparse_rows t.q → j < t.q.width → p_part p n i j ≡ p_part p t i j
  pub zero : (i : ℕ) → i < sparse_rows t.q → basic_of t i < t.q.width →
      p_part p n (sparse_rows t.q) (basic_of t i) ≡ 0
  pub basic_is : (i : ℕ) → i < sparse_rows t.q → basic_of n i ≡ skip (t.q.width + e) (basic_of t i)

-- n is t without row e of Q, and without row k of P, whose number the last row takes. Columns of P that are zero in
-- row k stay, and so do rows that are zero in column e of S
pub record IsTableWithoutRow (p : ℕ) (t n : Combined) (e k : ℕ) : Type 0 where
  pub q_is : IsQWithoutRow t.q n.q e
  pub columns_stay : (i j : ℕ) → i < sparse_rows n.q → j < t.q.width → p_part p t k j % p ≡ 0 →
      p_part p n i j % p ≡ p_part p t (last_at k (sparse_rows n.q) i) j % p
  pub rows_stay : (i j : ℕ) → i < sparse_rows n.q → j < t.q.width →
      s_part p t (last_at k (sparse_rows n.q) i) e % p ≡ 0 →
      p_part p n i j % p ≡ p_part p t (last_at k (sparse_rows n.q) i) j % p
  pub basic_is : (i : ℕ) → i < sparse_rows n.q →
      basic_of n i ≡ unskip (t.q.width + e) (basic_of t (last_at k (sparse_rows n.q) i))

-- n is t with a column of zeros put in as column v of Q
pub record IsTableWithColumn (p : ℕ) (t n : Combined) (v : ℕ) : Type 0 where
  pub q_is : IsQWithColumn t.q n.q v
  pub here : (i : ℕ) → i < sparse_rows t.q → p_part p n i v ≡ 0
  pub others : (i j : ℕ) → i < sparse_rows t.q → j < t.q.width → p_part p n i (skip v j) ≡ p_part p t i j
  pub basic_is : (i : ℕ) → i < sparse_rows t.q → basic_of n i ≡ skip v (basic_of t i)

-- n is t without column v of Q
pub record IsTableWithoutColumn (p : ℕ) (t n : Combined) (v : ℕ) : Type 0 where
  pub q_is : IsQWithoutColumn t.q n.q v
  pub columns_are : (i j : ℕ) → i < sparse_rows t.q → j < n.q.width → p_part p n i j ≡ p_part p t i (skip v j)
  pub basic_is : (i : ℕ) → i < sparse_rows t.q → basic_of n i ≡ unskip v (basic_of t i)

-- n has the room of t
pub record HasRoomOf (t n : Combined) : Type 0 where
  pub rows_same : n.row_room ≡ t.row_room
  pub columns_same : n.column_room ≡ t.column_room

-- n is t with room that may have grown: Q, P and the places of the columns are the same
pub record IsWidenedTable (p : ℕ) (t n : Combined) : Type 0 where
  pub rows_same : sparse_rows n.q ≡ sparse_rows t.q
  pub columns_same : n.q.width ≡ t.q.width
  pub q_same : number_in n.q ≡ number_in t.q
  pub places_same : layout_places n.layout ≡ layout_places t.layout
  pub p_same : p_part p n ≡ p_part p t
  pub s_same : s_part p n ≡ s_part p t
  pub u_same : u_part n ≡ u_part t
