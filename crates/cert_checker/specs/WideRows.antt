-- Rows of entries whose values are kept beside them.
use Rattle.std.specs.Prelude.{ℕ, ◌<◌, ◌≡◌, ◌%◌, List, [], Option, None, IfSome, length, slice_index, slice_index_or}
use Rattle.cert_text.specs.Readings.{entry_at}

-- the values of a row in n columns: at each column its number, modulo p
pub record AreValues (p n : ℕ) (entries : List (ℕ × ℕ)) (values : List ℕ) : Type 0 where
  pub count : length values ≡ n
  pub at : (j : ℕ) → j < n → slice_index values j % p ≡ entry_at entries j % p

-- beside each row of a matrix of n columns stand its values, or none
pub record AreValuesOfRows (p n : ℕ) (rows : List (List (ℕ × ℕ))) (values : List (Option (List ℕ))) : Type 0 where
  pub count : length values ≡ length rows
  pub each : (i : ℕ) → i < length rows →
      IfSome (slice_index_or values i None) (λ row. AreValues p n (slice_index_or rows i []) row)
