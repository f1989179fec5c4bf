-- Values with which a model reaches its rank, each at its place.
use Rattle.std.specs.Prelude.{ℕ, List, map}
use Rattle.mixed_matrices.specs.Models.{MixedMatrix}
use Rattle.mixed_matrices.specs.StructuralRanks.{IsStructuralRank}
use Rattle.value_list_laws.specs.ListedValues.{IsFirstReachingList}
use Rattle.symbol_places.specs.Places.{AreSymbolPlaces}
use Rattle.study_answers.specs.declared.values.ValueAt.{ValueAt}
use Rattle.study_answers.specs.declared.values.Values.{Values}

-- the numbers of some values
abbrev pub numbers_at : {T : Type 0} → (T → ℕ) → List (ValueAt T) → List ℕ
numbers_at number values = map (λ at. number at.value) values

-- the rank is R(M), each symbol of M has a value, by rising equation and then unknown, and the values are the first
-- list of ones and twos that reaches the rank
pub record AreValuesOf {T : Type 0} (number : T → ℕ) (p : ℕ) (M : MixedMatrix) (told : Values T) : Type 0 where
  pub rank : IsStructuralRank p M told.rank
  pub places : AreSymbolPlaces M (map (λ at. at.place) told.values)
  pub first : IsFirstReachingList p M (numbers_at number told.values)
