-- Which rows touch which columns.
use Rattle.std.specs.Prelude.{ℕ, ◌<◌, ◌≤◌, ◌≡◌, Bool, List, [], ◌∷◌, ◌++◌, length, slice_index_or}
use Rattle.std.specs.List.Sorted.{IsStrictlyIncreasing}
use Rattle.limits.specs.Limits.{column_limit}
use Rattle.residue_theory.specs.Sets.{has}
use Rattle.sparse_t.specs.Lists.{AreAllBelow}

-- how many columns there are, and for each row the columns that it touches
pub record Incidence : Type 0 where
  pub width : ℕ
  pub rows : List (List ℕ)

abbrev pub incidence_rows : Incidence → ℕ
incidence_rows p = length p.rows

abbrev pub columns_at : Incidence → ℕ → List ℕ
columns_at p i = slice_index_or p.rows i []

abbrev pub touches : Incidence → ℕ → ℕ → Bool
touches p i j = has (columns_at p i) j

abbrev pub incidence_with_row : Incidence → List ℕ → Incidence
incidence_with_row p row = record p { rows = p.rows ++ row ∷ [] }

-- each row is a rising list of columns, and there are at most 8,192 rows
pub record IsIncidence (p : Incidence) : Type 0 where
  pub rising : (i : ℕ) → i < incidence_rows p → IsStrictlyIncreasing (columns_at p i)
  pub below : (i : ℕ) → i < incidence_rows p → AreAllBelow p.width (columns_at p i)
  pub few : incidence_rows p ≤ column_limit

-- the list holds, rising, exactly the rows that touch column j
pub record AreRowsAt (p : Incidence) (j : ℕ) (list : List ℕ) : Type 0 where
  pub rising : IsStrictlyIncreasing list
  pub below : AreAllBelow (incidence_rows p) list
  pub exact : (i : ℕ) → i < incidence_rows p → has list i ≡ touches p i j
