-- A matrix beside which changes of all rows wait.
use Rattle.std.specs.Prelude.{ℕ, ◌+◌, ◌*◌, ◌%◌, ◌<◌, ◌≤◌, ◌≡◌}
use Rattle.residue_theory.specs.Sums.{sum_below}
use Rattle.dense_q.specs.Tables.{Table, height, entry}

-- so many rows and columns; the stored matrix, which has room for them and perhaps for more; and `count` changes that
-- wait: to each row come the first `count` rows of `pending`, each times its factor
pub record Kept : Type 0 where
  pub rows : ℕ
  pub columns : ℕ
  pub stored : Table
  pub factors : Table
  pub pending : Table
  pub count : ℕ

-- how many changes may wait
abbrev pub most : ℕ
most = 16

-- what waits for an entry
abbrev pub waiting : Kept → ℕ → ℕ → ℕ
waiting k i j = sum_below k.count (λ t. entry k.factors i t * entry k.pending t j)

-- the entry of the actual matrix, modulo p
abbrev pub actual : ℕ → Kept → ℕ → ℕ → ℕ
actual p k i j = (entry k.stored i j + waiting k i j) % p

-- there are factors for each row, the waiting rows are as wide, and the rows and columns have room
pub record AreKeptFactors (k : Kept) : Type 0 where
  pub factors_height : height k.factors ≡ height k.stored
  pub factors_width : k.factors.width ≡ most
  pub pending_height : height k.pending ≡ most
  pub pending_width : k.pending.width ≡ k.stored.width
  pub few : k.count ≤ most
  pub rows_fit : k.rows ≤ height k.stored
  pub columns_fit : k.columns ≤ k.stored.width

-- a and b have as many rows and as many columns, and as much room for them
pub record HasSameShape (a b : Kept) : Type 0 where
  pub rows_same : a.rows ≡ b.rows
  pub columns_same : a.columns ≡ b.columns
  pub height_same : height a.stored ≡ height b.stored
  pub width_same : a.stored.width ≡ b.stored.width

-- the actual entries are the same
abbrev pub IsActuallySame : ℕ → Kept → Kept → Type 0
IsActuallySame p a b = (i j : ℕ) → i < b.rows → j < b.columns → actual p a i j ≡ actual p b i j

-- no factor waits for row i
abbrev pub IsSettled : Kept → ℕ → Type 0
IsSettled k i = (t : ℕ) → t < k.count → entry k.factors i t ≡ 0

-- n is the matrix k with room for so many rows and columns
pub record IsWidened (p : ℕ) (k n : Kept) (rows columns : ℕ) : Type 0 where
  pub rows_same : n.rows ≡ k.rows
  pub columns_same : n.columns ≡ k.columns
  pub rows_room : height n.stored ≡ rows
  pub columns_room : n.stored.width ≡ columns
  pub same : (i j : ℕ) → actual p n i j ≡ actual p k i j

-- n is the matrix k with other rows: it has so many, and row i is row `from i` of k, or zero where that is no row
pub record HasRows (p : ℕ) (k n : Kept) (rows : ℕ) (from : ℕ → ℕ) : Type 0 where
  pub rows_are : n.rows ≡ rows
  pub columns_same : n.columns ≡ k.columns
  pub height_same : height n.stored ≡ height k.stored
  pub width_same : n.stored.width ≡ k.stored.width
  pub entries : (i j : ℕ) → i < rows → from i < k.rows → j < k.columns → actual p n i j ≡ actual p k (from i) j
  pub zero : (i j : ℕ) → i < rows → k.rows ≤ from i → j < k.columns → actual p n i j ≡ 0

-- n is the matrix k with other columns: it has so many, and column j is column `from j` of k, or zero where that is no
-- column
pub record HasColumns (p : ℕ) (k n : Kept) (columns : ℕ) (from : ℕ → ℕ) : Type 0 where
  pub rows_same : n.rows ≡ k.rows
  pub columns_are : n.columns ≡ columns
  pub height_same : height n.stored ≡ height k.stored
  pub width_same : n.stored.width ≡ k.stored.width
  pub entries : (i j : ℕ) → i < k.rows → j < columns → from j < k.columns → actual p n i j ≡ actual p k i (from j)
  pub zero : (i j : ℕ) → i < k.rows → j < columns → k.columns ≤ from j → actual p n i j ≡ 0
