-- Rows that stand in the parts of their columns.
use Rattle.std.specs.Prelude.{ℕ, ◌<◌, ◌≡◌, List, length, slice_index}
use Rattle.cert_text.specs.Readings.{pair_at}

-- the rows of the first n items have the parts of their columns, and the others the part `last`
pub record ArePlacedRows (rows : ℕ) (pairs : List (ℕ × ℕ)) (columns : List ℕ) (last n : ℕ) (places : List ℕ)
    : Type 0 where
  pub count : length places ≡ rows
  pub item : (k : ℕ) → k < n →
      slice_index places (pair_at pairs k).0 ≡ slice_index columns (pair_at pairs k).1
  pub other : (i : ℕ) → i < rows → ((k : ℕ) → k < n → (pair_at pairs k).0 ≡ i → ⊥) → slice_index places i ≡ last

-- the same of all items, with no word of the table
pub record StandWithColumns (rows : ℕ) (pairs : List (ℕ × ℕ)) (columns : List ℕ) (last : ℕ)
    (places : List ℕ) : Type 0 where
  pub item : (k : ℕ) → k < length pairs →
      slice_index places (pair_at pairs k).0 ≡ slice_index columns (pair_at pairs k).1
  pub other : (i : ℕ) → i < rows → ((k : ℕ) → k < length pairs → (pair_at pairs k).0 ≡ i → ⊥) →
      slice_index places i ≡ last
