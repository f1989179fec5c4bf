-- Where each number of a list stands, as a table.
use Rattle.std.specs.Prelude.{ℕ, ◌<◌, ◌≤◌, ◌≡◌, ◌≢◌, List, length, slice_get, slice_index_or, Option, Some, None}
use Rattle.mixed_layering.specs.Columns.{IsAbsent, StandsIn}
use Rattle.mixed_model.specs.declared.origin.Origin.{Origin}
use Rattle.mixed_model.specs.declared.origin.Origin.TheVariants.{Split}

-- what the table has for x
abbrev pub place_at : List (Option ℕ) → ℕ → Option ℕ
place_at table x = slice_index_or table x None

-- the table has for each number below n a place at which it stands in the list, if there is one
pub record FindsPlaces (n : ℕ) (list : List ℕ) (table : List (Option ℕ)) : Type 0 where
  pub count : length table ≡ n
  pub some : (x k : ℕ) → place_at table x ≡ Some k → StandsIn list x k
  pub none : (x : ℕ) → x < n → place_at table x ≡ None → IsAbsent list x

-- and for each equation below n its auxiliary column
pub record FindsSplits (n : ℕ) (origins : List Origin) (table : List (Option ℕ)) : Type 0 where
  pub count : length table ≡ n
  pub some : (e y : ℕ) → place_at table e ≡ Some y → slice_get origins y ≡ Some (Split e)
  pub none : (e : ℕ) → e < n → place_at table e ≡ None → (y : ℕ) → slice_get origins y ≡ Some (Split e) → ⊥

-- the place has been put at the number, where the table has one for it
pub record HasPutPlace (x k : ℕ) (old now : List (Option ℕ)) : Type 0 where
  pub count : length now ≡ length old
  pub put : x < length old → place_at now x ≡ Some k
  pub past : length old ≤ x → place_at now x ≡ None
  pub others : (y : ℕ) → y ≢ x → place_at now y ≡ place_at old y
