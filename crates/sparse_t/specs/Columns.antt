-- How the rows of each column are kept beside the rows.
use Rattle.std.specs.Prelude.{ℕ, ◌+◌, ◌<◌, ◌≤◌, ◌≡◌, true, false, List, [], ◌∷◌, ◌++◌, length, map, slice_index, slice_index_or}
use Rattle.smallvec.specs.SmallVec.{SmallVec}
use Rattle.residue_theory.specs.Sets.{has}
use Rattle.sparse_t.specs.Incidences.{IsIncidence, AreRowsAt}

-- the numbers in one of some lists
abbrev pub list_items_at : List (SmallVec ℕ) → ℕ → List ℕ
list_items_at lists j = slice_index_or (map (λ list. list.items) lists) j []

-- how many numbers fit in it
abbrev pub capacity_at : List (SmallVec ℕ) → ℕ → ℕ
capacity_at lists j = slice_index_or (map (λ list. list.capacity) lists) j 0

-- the lists of the first k of the columns have room for one number more
abbrev pub HasRoom : List (SmallVec ℕ) → List ℕ → ℕ → Type 0
HasRoom lists columns k = (i : ℕ) → i < k → length (list_items_at lists (slice_index columns i)) + 1
    ≤ capacity_at lists (slice_index columns i)

-- the lists hold what they held
pub record HasSameItems (lists now : List (SmallVec ℕ)) : Type 0 where
  pub count : length now ≡ length lists
  pub items : (j : ℕ) → j < length lists → list_items_at now j ≡ list_items_at lists j

-- the lists of the columns hold the row too, as their last item, and the others hold what they held
pub record IsEntered (lists now : List (SmallVec ℕ)) (columns : List ℕ) (row : ℕ) : Type 0 where
  pub count : length now ≡ length lists
  pub entered : (j : ℕ) → j < length lists → has columns j ≡ true → list_items_at now j ≡ list_items_at lists j ++
      row ∷ []
  pub others : (j : ℕ) → j < length lists → has columns j ≡ false → list_items_at now j ≡ list_items_at lists j

-- each row is a row of an incidence, and beside each column stand the rows that touch it
pub record AreIndexed (rows columns : List (SmallVec ℕ)) : Type 0 where
  pub incidence : IsIncidence (record { width = length columns; rows = map (λ row. row.items) rows })
  pub rows_of : (j : ℕ) → j < length columns → AreRowsAt
      (record { width = length columns; rows = map (λ row. row.items) rows }) j (list_items_at columns j)
