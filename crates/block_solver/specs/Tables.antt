-- Rows of entries that are put below the last row of a table, at some of their columns.
use Rattle.std.specs.Prelude.{ℕ, ◌+◌, ◌<◌, ◌≡◌, List, [], length, slice_index, slice_index_or}
use Rattle.dense_q.specs.Tables.{Table, entry, height}
use Rattle.cert_text.specs.Readings.{entry_at}

-- now is old with one row more, the entries at the columns
pub record HasPartRow (old now : Table) (entries : List (ℕ × ℕ)) (columns : List ℕ) : Type 0 where
  pub height_is : height now ≡ height old + 1
  pub width_same : now.width ≡ old.width
  pub here : (c : ℕ) → c < length columns → entry now (height old) c ≡ entry_at entries (slice_index columns c)
  pub before : (i j : ℕ) → i < height old → entry now i j ≡ entry old i j

-- now is old with n rows more, row `members k` at the columns for each k below n
pub record HasPartRows (old now : Table) (n : ℕ) (rows : List (List (ℕ × ℕ))) (members columns : List ℕ) : Type 0 where
  pub height_is : height now ≡ height old + n
  pub width_same : now.width ≡ old.width
  pub here : (k c : ℕ) → k < n → c < length columns → entry now (height old + k) c
      ≡ entry_at (slice_index_or rows (slice_index members k) []) (slice_index columns c)
  pub before : (i j : ℕ) → i < height old → entry now i j ≡ entry old i j
