-- Arcs that are put from lists.
use Rattle.std.specs.Prelude.{ℕ, ◌<◌, ◌≡◌, ◌≢◌, ◌⊎◌, true, List, length, slice_index}
use Rattle.cert_text.specs.Readings.{pair_at}
use Rattle.part_rules.specs.Listed.{arc_in}
use Rattle.part_arcs.specs.Marking.{row_of_lists}

-- the first n of a list lead to y now, but y itself; and what led before leads
pub record AreLedTo (list : List ℕ) (y n : ℕ) (old now : List (ℕ × ℕ)) : Type 0 where
  pub kept : (a b : ℕ) → arc_in old a b ≡ true → arc_in now a b ≡ true
  pub new : (k : ℕ) → k < n → slice_index list k ≢ y → arc_in now (slice_index list k) y ≡ true
  pub only : (a b : ℕ) → arc_in now a b ≡ true → (arc_in old a b ≡ true)
      ⊎ ((b ≡ y) × (a ≢ y) × ((k : ℕ) × (k < n) × (slice_index list k ≡ a)))

-- what stands in the rows of the first n items leads to their columns now
pub record AreLed (rows : List (List ℕ)) (pairs : List (ℕ × ℕ)) (n : ℕ) (old now : List (ℕ × ℕ)) : Type 0 where
  pub kept : (a b : ℕ) → arc_in old a b ≡ true → arc_in now a b ≡ true
  pub new : (j k : ℕ) → j < n → k < length (row_of_lists rows (pair_at pairs j).0) →
      slice_index (row_of_lists rows (pair_at pairs j).0) k ≢ (pair_at pairs j).1 →
      arc_in now (slice_index (row_of_lists rows (pair_at pairs j).0) k) (pair_at pairs j).1 ≡ true
  pub only : (a b : ℕ) → arc_in now a b ≡ true → (arc_in old a b ≡ true)
      ⊎ ((j k : ℕ) × (j < n) × (k < length (row_of_lists rows (pair_at pairs j).0)) × ((pair_at pairs j).1 ≡ b) ×
      (a ≢ b)
      × (slice_index (row_of_lists rows (pair_at pairs j).0) k ≡ a))
