-- A matrix by the items of its rows, and the table that it is.
use Rattle.std.specs.Prelude.{ℕ, ◌<◌, ◌≤◌, ◌≡◌, ◌≢◌, List, length, map}
use Rattle.std.specs.List.{All, range_with_len}
use Rattle.limits.specs.Limits.{column_limit}
use Rattle.dense_q.specs.Tables.{HasSameSize, Table, entry, row_at}
use Rattle.row_entries.specs.Rows.{Item, IsEntryRow, number_at}

-- the numbers of a row of w columns, its zeros too
abbrev pub numbers_of : ℕ → List Item → List ℕ
numbers_of w xs = map (number_at xs) (range_with_len 0 w)

-- the table of w columns with these rows
abbrev pub table_of : ℕ → List (List Item) → Table
table_of w rows = record { width = w; rows = map (numbers_of w) rows }

-- each row has w columns and numbers below p, and there are at most 8,192 rows and columns
pub record AreEntryRows (p w : ℕ) (rows : List (List Item)) : Type 0 where
  pub full : All (IsEntryRow p w) rows
  pub few : length rows ≤ column_limit
  pub narrow : w ≤ column_limit

-- row i of `now` has these numbers before column n, and zeros from it on; the other rows are those of `old`
pub record IsFilled (old now : Table) (i n : ℕ) (numbers : ℕ → ℕ) : Type 0 where
  pub size : HasSameSize now old
  pub long : length (row_at now i) ≡ old.width
  pub here : (j : ℕ) → j < n → entry now i j ≡ numbers j
  pub rest : (j : ℕ) → n ≤ j → entry now i j ≡ 0
  pub others : (k j : ℕ) → k ≢ i → entry now k j ≡ entry old k j
