-- What stands in the rows of a layered matrix.
use Rattle.std.specs.Prelude.{ℕ, ◌+◌, ◌-◌, ◌<◌, ◌≡◌, ◌≢◌, Bool, List, cond, eqb, ltb, length, slice_index}
use Rattle.std.specs.List.Sorted.{IsStrictlyIncreasing}
use Rattle.dense_q.specs.Tables.{Table, HasSameSize, row_at, entry}
use Rattle.mixed_matrices.specs.Models.{MixedMatrix}
use Rattle.residue_theory.specs.Sets.{has}
use Rattle.sparse_t.specs.Incidences.{Incidence, touches}

-- the entry of the Q row of an equation: its constants, and 1 at its auxiliary column
abbrev pub constant_place : MixedMatrix → List ℕ → ℕ → ℕ → ℕ
constant_place M split equation j =
    cond (ltb j M.columns) (M.constant equation j) (cond (eqb equation (slice_index split (j - M.columns))) 1 0)

-- whether the T row of an equation touches a column: at its symbols, and at its auxiliary column
abbrev pub symbol_place : MixedMatrix → List ℕ → ℕ → ℕ → Bool
symbol_place M split equation j =
    cond (ltb j M.columns) (M.symbol equation j) (eqb equation (slice_index split (j - M.columns)))

-- a row has these entries, and the other rows stay
pub record FillsRow (old new : Table) (row : ℕ) (at : ℕ → ℕ) : Type 0 where
  pub size : HasSameSize new old
  pub long : length (row_at new row) ≡ length (row_at old row)
  pub filled : (j : ℕ) → j < old.width → entry new row j ≡ at j
  pub others : (i j : ℕ) → i < length old.rows → i ≢ row → entry new i j ≡ entry old i j

-- the list holds, rising, exactly the members of A below n
pub record AreTouched (n : ℕ) (A : ℕ → Bool) (list : List ℕ) : Type 0 where
  pub rising : IsStrictlyIncreasing list
  pub below : (k : ℕ) → k < length list → slice_index list k < n
  pub exact : (j : ℕ) → j < n → has list j ≡ A j

-- the rows are the T rows of the first n of these equations
pub record AreRowsOfSymbols (M : MixedMatrix) (split equations : List ℕ) (n : ℕ) (t : Incidence) : Type 0 where
  pub width : t.width ≡ M.columns + length split
  pub count : length t.rows ≡ n
  pub touched : (i j : ℕ) → i < n → j < t.width → touches t i j ≡ symbol_place M split (slice_index equations i) j
