-- A matrix in a larger one.
use Rattle.std.specs.Prelude.{ℕ, ◌≡◌}
use Rattle.dense_q.specs.Tables.{Table, height, entry}

-- n has so many rows and columns, and the entries of m, and zeros elsewhere
pub record IsLarger (m : Table) (rows columns : ℕ) (n : Table) : Type 0 where
  pub rows_are : height n ≡ rows
  pub columns_are : n.width ≡ columns
  pub same : (i j : ℕ) → entry n i j ≡ entry m i j
