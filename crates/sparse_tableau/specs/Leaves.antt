-- What becomes of the matrices of a sparse tableau where a row leaves.
use Rattle.std.specs.Prelude.{ℕ, ◌+◌, ◌%◌, ◌<◌, ◌≡◌, ◌≢◌, ◌⊎◌, true, length}
use Rattle.linear_algebra.specs.Parts.{skip}
use Rattle.sparse_q.specs.Tables.{SparseTable, sparse_rows, number_in}
use Rattle.row_transform.specs.Bases.{BaseLists, is_base, base_row}
use Rattle.tableau_edit_laws.specs.Edits.{last_for}
use Rattle.sparse_tableau.specs.Sparse.{HasSameRoom}

-- b is a without row r, whose place the last row takes
pub record IsRowReplaced (a b : SparseTable) (r : ℕ) : Type 0 where
  pub rows_are : sparse_rows b + 1 ≡ sparse_rows a
  pub width_same : b.width ≡ a.width
  pub room : HasSameRoom a b
  pub numbers : (i j : ℕ) → i < sparse_rows b → number_in b i j ≡ number_in a (last_for (sparse_rows a) r i) j

-- b is a without row r, whose place the last row takes, and without column v
pub record IsLineReplaced (a b : SparseTable) (r v : ℕ) : Type 0 where
  pub rows_are : sparse_rows b + 1 ≡ sparse_rows a
  pub width_is : b.width + 1 ≡ a.width
  pub room : HasSameRoom a b
  pub numbers : (i j : ℕ) → i < sparse_rows b → number_in b i j ≡ number_in a (last_for (sparse_rows a) r i) (skip v j)

-- b is a without row r
pub record IsRowGone (a b : SparseTable) (r : ℕ) : Type 0 where
  pub rows_are : sparse_rows b + 1 ≡ sparse_rows a
  pub width_same : b.width ≡ a.width
  pub room : HasSameRoom a b
  pub numbers : (i j : ℕ) → number_in b i j ≡ number_in a (skip r i) j

-- row r has no base column
abbrev pub IsBareRow : BaseLists → ℕ → Type 0
IsBareRow b r = (y : ℕ) → y < length b.rows → is_base b y ≡ true → base_row b y ≢ r

-- row r of a has an entry in column v, not zero modulo p, and no base column, or each row with an entry there has one
pub record IsChosen (p : ℕ) (a : SparseTable) (b : BaseLists) (v r : ℕ) : Type 0 where
  pub below : r < sparse_rows a
  pub entry : number_in a r v % p ≢ 0
  pub preferred : IsBareRow b r ⊎ ((i : ℕ) → i < sparse_rows a → IsBareRow b i → number_in a i v ≡ 0)
