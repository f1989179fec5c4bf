-- The columns of a layered matrix: those of the unknowns, and then the auxiliary ones.
use Rattle.std.specs.Prelude.{ℕ, ◌+◌, ◌<◌, ◌≡◌, ◌≢◌, List, length, slice_get, slice_index, Some}
use Rattle.std.specs.List.{count_by}
use Rattle.mixed_model.specs.Layers.{is_split}
use Rattle.mixed_model.specs.declared.origin.Origin.{Origin}
use Rattle.mixed_model.specs.declared.origin.Origin.TheVariants.{Unknown, Split}

-- a column for each unknown, in order, and then for each of the first n split equations
pub record AreColumns (unknowns : ℕ) (split : List ℕ) (n : ℕ) (origins : List Origin) : Type 0 where
  pub count : length origins ≡ unknowns + n
  pub splits : count_by is_split origins ≡ n
  pub unknown : (j : ℕ) → j < unknowns → slice_get origins j ≡ Some (Unknown j)
  pub auxiliary : (k : ℕ) → k < n → slice_get origins (unknowns + k) ≡ Some (Split (slice_index split k))

-- the number is item `place` of the list
pub record StandsIn (list : List ℕ) (number place : ℕ) : Type 0 where
  pub within : place < length list
  pub item : slice_index list place ≡ number

-- the number is no item of the list
abbrev pub IsAbsent : List ℕ → ℕ → Type 0
IsAbsent list number = (k : ℕ) → k < length list → slice_index list k ≢ number
