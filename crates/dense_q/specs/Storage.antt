-- How a matrix is stored: its rows, each a list of values.
use Rattle.std.specs.Prelude.{ℕ, ◌≡◌, ◌≤◌, List, length, Vec, vec_len}
use Rattle.std.specs.List.{All}
use Rattle.limits.specs.Limits.{column_limit}

-- each row has a value for each column, and there are at most 8,192 rows and columns
pub record IsStored {A Z : Type 0} (width : ℕ) (rows : List (Vec A Z)) : Type 0 where
  pub full : All (λ row. vec_len row ≡ width) rows
  pub few : length rows ≤ column_limit
  pub narrow : width ≤ column_limit
