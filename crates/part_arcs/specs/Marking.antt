-- Places that are marked from lists.
use Rattle.std.specs.Prelude.{ℕ, ◌<◌, ◌≡◌, ◌⊎◌, Bool, true, false, List, [], length, map, slice_index, slice_index_or}
use Rattle.part_rules.specs.Listed.{marked}

-- the first numbers of pairs
abbrev pub first_numbers : {T : Type 0} → List (ℕ × T) → List ℕ
first_numbers items = map (λ item. item.0) items

-- the second ones
abbrev pub columns_of : List (ℕ × ℕ) → List ℕ
columns_of pairs = map (λ pair. pair.1) pairs

-- row i of a list of rows
abbrev pub row_of_lists : List (List ℕ) → ℕ → List ℕ
row_of_lists rows i = slice_index_or rows i []

-- the first n of a list are marked now, beside what was marked
pub record IsMarked (list : List ℕ) (n : ℕ) (old now : List Bool) : Type 0 where
  pub count : length now ≡ length old
  pub kept : (x : ℕ) → marked old x ≡ true → marked now x ≡ true
  pub new : (k : ℕ) → k < n → marked now (slice_index list k) ≡ true
  pub only : (x : ℕ) → marked now x ≡ true → (marked old x ≡ true) ⊎ ((k : ℕ) × (k < n) × (slice_index list k ≡ x))

-- what stands in those of the first n rows that are not taken is marked now, beside what was marked
pub record AreMarked (taken : List Bool) (rows : List (List ℕ)) (n : ℕ) (old now : List Bool) : Type 0 where
  pub count : length now ≡ length old
  pub kept : (x : ℕ) → marked old x ≡ true → marked now x ≡ true
  pub new : (i k : ℕ) → i < n → marked taken i ≡ false → k < length (row_of_lists rows i) →
      marked now (slice_index (row_of_lists rows i) k) ≡ true
  pub only : (x : ℕ) → marked now x ≡ true → (marked old x ≡ true)
      ⊎ ((i k : ℕ) × (i < n) × (marked taken i ≡ false) × (k < length (row_of_lists rows i))
      × (slice_index (row_of_lists rows i) k ≡ x))

-- the first n marks are those that are not set
pub record AreOthers (marks : List Bool) (n : ℕ) (others : List Bool) : Type 0 where
  pub count : length others ≡ n
  pub set : (x : ℕ) → x < n → marked others x ≡ true → marked marks x ≡ false
  pub clear : (x : ℕ) → x < n → marked marks x ≡ false → marked others x ≡ true
