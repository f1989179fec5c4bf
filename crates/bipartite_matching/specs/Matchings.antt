-- Matchings of rows with columns.
use Rattle.std.specs.Prelude.{ℕ, ◌<◌, ◌≤◌, ◌≡◌, true, List, length, replicate, Option, Some, None, slice_index_or, slice_set}
use Rattle.std.specs.List.{insert, remove}
use Rattle.linear_algebra.specs.Parts.{skip, unskip}
use Rattle.number_pairs.specs.Pairs.{PairLists, all_moved}
use Rattle.sparse_t.specs.Incidences.{Incidence, incidence_rows, touches}
use Rattle.sparse_t.specs.Edits.{RoomyIncidence, row_inserted, row_removed, column_inserted, column_removed}

-- for each column of the pattern the row that it is matched with, if there is one; so a column has one row at most.
-- And for how many rows and columns there is room
pub record Matching : Type 0 where
  pub pattern : Incidence
  pub mates : List (Option ℕ)
  pub row_room : ℕ
  pub column_room : ℕ

abbrev pub mate_at : Matching → ℕ → Option ℕ
mate_at m col = slice_index_or m.mates col None

-- the row and the column are matched with each other
abbrev pub HasPair : Matching → ℕ → ℕ → Type 0
HasPair m row col = mate_at m col ≡ Some row

abbrev pub IsRowMatched : Matching → ℕ → Type 0
IsRowMatched m row = (col : ℕ) × HasPair m row col

abbrev pub IsRowFree : Matching → ℕ → Type 0
IsRowFree m row = (col : ℕ) → HasPair m row col → ⊥

-- pairs are symbol places, and no two of them have a row in common
pub record IsMatching (m : Matching) : Type 0 where
  pub count : length m.mates ≡ m.pattern.width
  pub row : (row col : ℕ) → HasPair m row col → row < incidence_rows m.pattern
  pub column : (row col : ℕ) → HasPair m row col → col < m.pattern.width
  pub symbol : (row col : ℕ) → HasPair m row col → touches m.pattern row col ≡ true
  pub one_column : (row col other : ℕ) → HasPair m row col → HasPair m row other → col ≡ other

abbrev pub empty_matching : Incidence → Matching
empty_matching p = record { pattern = p; mates = replicate p.width None; row_room = 0; column_room = 0 }

abbrev pub with_pair : Matching → ℕ → ℕ → Matching
with_pair m row col = record m { mates = slice_set m.mates col (Some row) }

abbrev pub matching_without : Matching → ℕ → Matching
matching_without m col = record m { mates = slice_set m.mates col None }

-- with a row more, which is in no pair
abbrev pub with_row_in : Matching → ℕ → List ℕ → Matching
with_row_in m v row = record m { pattern = row_inserted m.pattern v row; mates = all_moved (skip v) m.mates }

-- without a row, which is in no pair
abbrev pub with_row_out : Matching → ℕ → Matching
with_row_out m v = record m { pattern = row_removed m.pattern v; mates = all_moved (unskip v) m.mates }

-- with a column more, which no row touches
abbrev pub with_column_in : Matching → ℕ → Matching
with_column_in m v = record m { pattern = column_inserted m.pattern v; mates = insert m.mates v None }

-- without a column, which no row touches
abbrev pub with_column_out : Matching → ℕ → Matching
with_column_out m v = record m { pattern = column_removed m.pattern v; mates = remove m.mates v }

-- the pairs of rows with columns are a matching of the pattern, and there is as much room as is told
pub record IsTwoSided (m : Matching) (pattern : RoomyIncidence) (pairs : PairLists) : Type 0 where
  pub matching : IsMatching m
  pub rows : length pairs.rights ≡ incidence_rows m.pattern
  pub pattern_rows : m.row_room ≤ pattern.row_room
  pub pattern_columns : m.column_room ≤ pattern.column_room
  pub pair_rows : m.row_room ≤ pairs.left_room
  pub pair_columns : m.column_room ≤ pairs.right_room
