-- What an edit leaves of a model.
use Rattle.std.specs.Prelude.{ℕ, ◌<◌, ◌≡◌, ◌⊎◌, ◌++◌, ◌∷◌, Bool, false, List, [], codes, fold, length, map, position, Option, None, Some, Ok}
use Rattle.std.specs.Str.{bytes_eq}
use Rattle.mixed_model.specs.Models.{MixedModel, SetsPlace, constant_at, constant_of, equation_removed, symbol_of, with_seen_unknown}
use Rattle.mixed_model.specs.Names.{name_at, see, seeing}
use Rattle.matrix_reader.specs.Items.{item_constant, item_symbol, unknown_of, unless_zero}
use Rattle.matrix_reader.specs.Models.{said_of, symbol_said}

-- the unknown of this name is there, the last one if it was not before, and its place in equation i holds just this
-- constant and this symbol
pub record SetsItem (old new : MixedModel) (i : ℕ) (name : List ℕ) (constant : Option ℕ) (symbol : Bool) : Type 0 where
  pub unknown : ℕ
  pub seen : seeing old.unknowns name ≡ Ok unknown
  pub set : SetsPlace (with_seen_unknown old name) new i unknown constant symbol

-- there is an equation more, the last one, with what the items say, and unknowns that they are first to name come last
pub record HasEquationMore (p : ℕ) (old new : MixedModel) (name : List ℕ) (items : List (List ℕ)) : Type 0 where
  pub equations : new.equations ≡ old.equations ++ name ∷ []
  pub unknowns : new.unknowns ≡ fold see old.unknowns (map unknown_of items)
  pub kept_constants : (i j : ℕ) → i < length old.equations → constant_of new i j ≡ constant_of old i j
  pub kept_symbols : (i j : ℕ) → i < length old.equations → symbol_of new i j ≡ symbol_of old i j
  pub constants : (j : ℕ) → j < length new.unknowns →
      constant_at new (length old.equations) j ≡ said_of p items (name_at new.unknowns j)
  pub symbols : (j : ℕ) → j < length new.unknowns →
      symbol_of new (length old.equations) j ≡ symbol_said items (name_at new.unknowns j)

-- the equation of this name is gone, and the unknowns are as they were
pub record DropsEquation (old new : MixedModel) (name : List ℕ) : Type 0 where
  pub equation : ℕ
  pub found : position (bytes_eq name) old.equations ≡ Some equation
  pub dropped : new ≡ equation_removed old equation

-- the place of an item in the equation of this name holds just what the item says
pub record SetsPlaceOf (p : ℕ) (old new : MixedModel) (name item : List ℕ) : Type 0 where
  pub equation : ℕ
  pub found : position (bytes_eq name) old.equations ≡ Some equation
  pub set : SetsItem old new equation (unknown_of item) (unless_zero (item_constant p item)) (item_symbol item)

-- the place of an equation and an unknown of these names is empty
pub record ClearsPlaceOf (old new : MixedModel) (name unknown : List ℕ) : Type 0 where
  pub equation : ℕ
  pub found : position (bytes_eq name) old.equations ≡ Some equation
  pub column : ℕ
  pub there : position (bytes_eq unknown) old.unknowns ≡ Some column
  pub cleared : SetsPlace old new equation column None false

-- the edit that a command says, by its first word and by the name and the words behind the number
abbrev pub IsEditOf : ℕ → List ℕ → List (List ℕ) → MixedModel → MixedModel → Type 0
IsEditOf p word [] old new = ⊥
IsEditOf p word (name ∷ words) old new =
    ((word ≡ codes "add") × HasEquationMore p old new name words)
    ⊎ ((word ≡ codes "drop") × (words ≡ []) × DropsEquation old new name)
    ⊎ ((word ≡ codes "set") × ((item : List ℕ) × (words ≡ item ∷ []) × SetsPlaceOf p old new name item))
    ⊎ ((word ≡ codes "clear") × ((unknown : List ℕ) × (words ≡ unknown ∷ []) × ClearsPlaceOf old new name unknown))
