-- Values that are listed one after another, beside a model in which they stand in place of the symbols.
use Rattle.std.specs.Prelude.{ℕ, ◌+◌, ◌<◌, ◌≡◌, true, List, length, slice_index}
use Rattle.mixed_matrices.specs.Models.{MixedMatrix}
use Rattle.mixed_model.specs.Models.{MixedModel, mixed_matrix_of}
use Rattle.value_list_laws.specs.FixedSymbols.{IsSymbolPlace}
use Rattle.value_list_laws.specs.ListedValues.{symbols_before}
use Rattle.value_list_laws.specs.ValueLists.{IsFirstList, before}
use Rattle.value_lists.specs.Fixing.{AreSymbolColumns, IsFixedTo, IsOneIn}

-- the values are those of v at the symbols before (i, j)
pub record IsListedTo (M : MixedMatrix) (v : ℕ → ℕ → ℕ) (i j : ℕ) (values : List ℕ) : Type 0 where
  pub count : length values ≡ symbols_before M i j
  pub each : (k l : ℕ) → IsSymbolPlace M k l → before i j k l ≡ true →
      slice_index values (symbols_before M k l) ≡ v k l

-- and N is M with them in place of these symbols
pub record IsListedAndFixed (p : ℕ) (M : MixedMatrix) (v : ℕ → ℕ → ℕ) (i j : ℕ) (N : MixedModel) (values : List ℕ)
    : Type 0 where
  pub fixed : IsFixedTo p M v i j (mixed_matrix_of N)
  pub listed : IsListedTo M v i j values

-- the first list goes on so from (i, j) to (k, l)
abbrev pub GoesOn : ℕ → MixedMatrix → ℕ → ℕ → ℕ → ℕ → MixedModel → MixedModel → List ℕ → List ℕ → Type 0
GoesOn p M i j k l old new values now =
    (v : ℕ → ℕ → ℕ) → IsFirstList p M v → IsListedAndFixed p M v i j old values →
    IsListedAndFixed p M v k l new now

-- of whatever model these are the symbols of equation i, and whatever values are 1 there, the list goes on so
abbrev pub ListsOnes : List ℕ → List ℕ → List ℕ → Type 0
ListsOnes columns values now =
    (M : MixedMatrix) (v : ℕ → ℕ → ℕ) (i : ℕ) → i < M.rows → AreSymbolColumns M i columns → IsOneIn M i v →
    IsListedTo M v i 0 values → IsListedTo M v (i + 1) 0 now

-- the values are those of each v that is 1 at all symbols
abbrev pub IsListOfOnes : MixedMatrix → List ℕ → Type 0
IsListOfOnes M values =
    (v : ℕ → ℕ → ℕ) → ((i j : ℕ) → IsSymbolPlace M i j → v i j ≡ 1) → IsListedTo M v M.rows 0 values
