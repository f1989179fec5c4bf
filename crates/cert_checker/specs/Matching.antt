-- Columns of items, and rows of symbols.
use Rattle.std.specs.Prelude.{ℕ, ◌<◌, ◌≡◌, ◌≢◌, true, List, [], length, slice_index, slice_index_or}
use Rattle.sparse_t.specs.Incidences.{Incidence, columns_at, incidence_rows, touches}
use Rattle.cert_text.specs.Readings.{pair_at, pattern_of}

-- the rows of the first n items have symbols at their columns
abbrev pub AreSymbols : Incidence → List (ℕ × ℕ) → ℕ → Type 0
AreSymbols t mates n = (k : ℕ) → k < n → touches t (pair_at mates k).0 (pair_at mates k).1 ≡ true

-- the columns of the first n items differ, and none is taken
pub record AreFreeColumns (taken : List ℕ) (pairs : List (ℕ × ℕ)) (n : ℕ) : Type 0 where
  pub free : (k : ℕ) → k < n → slice_index taken (pair_at pairs k).1 ≡ 0
  pub differ : (k l : ℕ) → k < n → l < n → (pair_at pairs k).1 ≡ (pair_at pairs l).1 → k ≡ l

-- the columns of the first n items are taken now, and the others are where they were
pub record IsTaken (taken : List ℕ) (pairs : List (ℕ × ℕ)) (n : ℕ) (now : List ℕ) : Type 0 where
  pub item : (k : ℕ) → k < n → slice_index now (pair_at pairs k).1 ≢ 0
  pub kept : (x : ℕ) → x < length taken → slice_index taken x ≢ 0 → slice_index now x ≢ 0
  pub only : (x : ℕ) → x < length taken → slice_index taken x ≡ 0 → slice_index now x ≢ 0 →
      (k : ℕ) × (k < n) × ((pair_at pairs k).1 ≡ x)

-- the first n rows are those of the pattern
abbrev pub HasRowsOf : Incidence → List (List ℕ) → ℕ → Type 0
HasRowsOf t rows n = (i : ℕ) → i < n → slice_index_or rows i [] ≡ columns_at t i

-- the rows have the symbols of the pattern
abbrev pub HasSymbolsOf : Incidence → List (List ℕ) → Type 0
HasSymbolsOf t rows = (i j : ℕ) → i < incidence_rows t → j < t.width → pattern_of rows i j ≡ touches t i j
