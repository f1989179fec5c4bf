-- Lists of rows with their columns.
use Rattle.std.specs.Prelude.{ℕ, ◌<◌, ◌≡◌, List, length}
use Rattle.bipartite_matching.specs.Matchings.{Matching, HasPair}
use Rattle.cert_text.specs.Readings.{pair_at}
use Rattle.row_transform.specs.Tableaus.{TableauState, IsBaseColumn}

-- each of the first m rows that has a column, with that column, by rising row; Has says of a row and a column that
-- it has it
pub record ListsPairs (Has : ℕ → ℕ → Type 0) (m : ℕ) (pairs : List (ℕ × ℕ)) : Type 0 where
  pub below : (k : ℕ) → k < length pairs → (pair_at pairs k).0 < m
  pub member : (k : ℕ) → k < length pairs → Has (pair_at pairs k).0 (pair_at pairs k).1
  pub rising : (k l : ℕ) → k < l → l < length pairs → (pair_at pairs k).0 < (pair_at pairs l).0
  pub all : (r y : ℕ) → r < m → Has r y → (k : ℕ) × (k < length pairs) × (pair_at pairs k ≡ (r, y))

-- by rising row, rows below m and columns below n
pub record AreWithin (m n : ℕ) (pairs : List (ℕ × ℕ)) : Type 0 where
  pub row : (k : ℕ) → k < length pairs → (pair_at pairs k).0 < m
  pub column : (k : ℕ) → k < length pairs → (pair_at pairs k).1 < n
  pub rising : (k l : ℕ) → k < l → l < length pairs → (pair_at pairs k).0 < (pair_at pairs l).0

-- the T row r is matched with column y, one of n
pub record IsMate (M : Matching) (n r y : ℕ) : Type 0 where
  pub pair : HasPair M r y
  pub below : y < n

-- each Q row with its base column, and each of the T rows with its matched column
pub record ListsPair (S : TableauState) (M : Matching) (t_rows : ℕ) (base mates : List (ℕ × ℕ)) : Type 0 where
  pub base_is : ListsPairs (IsBaseColumn S) S.rows base
  pub mates_are : ListsPairs (IsMate M S.columns) t_rows mates
