-- Matrices by their printed rows.
use Rattle.std.specs.Prelude.{ℕ, ◌<◌, ◌≡◌, List}
use Rattle.cert_text.specs.Ranges.{AreEntries, IsPrintedMatrix}
use Rattle.cert_text.specs.Readings.{entry_at, matrix_of}

-- the entries of a row of n numbers below p that are not 0
pub record PrintsRow (p n : ℕ) (row : ℕ → ℕ) (entries : List (ℕ × ℕ)) : Type 0 where
  pub are : AreEntries p n entries
  pub same : (j : ℕ) → j < n → entry_at entries j ≡ row j

-- the rows of an m x n matrix of numbers below p
pub record PrintsMatrix (p m n : ℕ) (matrix : ℕ → ℕ → ℕ) (rows : List (List (ℕ × ℕ))) : Type 0 where
  pub is : IsPrintedMatrix p m n rows
  pub same : (i j : ℕ) → i < m → j < n → matrix_of rows i j ≡ matrix i j
