-- Heads that do not fit a model.
use Rattle.std.specs.Prelude.{◌≡◌, ◌⊎◌, ℕ, ◌<◌, List, length, Some, None}
use Rattle.refusals.specs.declared.Place.TheVariants.{Document, Line}
use Rattle.refusals.specs.declared.ReadModel.{ReadModel}
use Rattle.refusals.specs.declared.ReadModel.TheVariants.{Refused, NoMemory}
use Rattle.refusals.specs.declared.Refused.{Refused as Refusal}
use Rattle.refusals.specs.declared.Why.TheVariants.{Missing, TooMany, Undeclared}
use Rattle.mixed_model.specs.Models.{MixedModel, mixed_matrix_of}
use Rattle.value_list_laws.specs.FixedSymbols.{IsSymbolPlace}
use Rattle.problem_heads.specs.HeadNumbers.{HeadNumber, number_for, numbers_of_head}
use Rattle.problem_heads.specs.Problems.{different, first_undeclared, level_limit, place_names, sides_of}
use Rattle.problem_heads.specs.declared.form.Form.{Form}
use Rattle.problem_heads.specs.declared.form.Form.TheVariants.{Repair, Solve}

-- the first line that names what the model has not is refused
abbrev pub IsUndeclared : {N : Type 0} → List (HeadNumber N) → MixedModel → Refusal → Type 0
IsUndeclared {N} numbers model refused =
    (given : HeadNumber N) × (first_undeclared model numbers ≡ Some given)
    × (refused ≡ record { place = Line given.line; why = Undeclared })

-- a symbol has no value
abbrev pub LacksValue : {N : Type 0} → List (HeadNumber N) → MixedModel → Type 0
LacksValue numbers model = (i j : ℕ) × IsSymbolPlace (mixed_matrix_of model) i j
    × (number_for numbers (place_names model i j) ≡ None)

-- a refusal for a value that is missing, or memory ran out
abbrev pub IsMissing : Type 0 → ReadModel → Type 0
IsMissing Lacks (Refused refused) = (refused ≡ record { place = Document; why = Missing }) × Lacks
IsMissing Lacks NoMemory = Unit {0}

-- what is refused of the whole, where the model has all that is named
abbrev pub IsUnfitWhole : Form → List (HeadNumber ℕ) → MixedModel → Refusal → Type 0
IsUnfitWhole Solve numbers model refused =
    (refused ≡ record { place = Document; why = Missing }) × LacksValue numbers model
IsUnfitWhole Repair numbers model refused =
    (refused ≡ record { place = Document; why = TooMany })
    × (level_limit < length (different (sides_of numbers 1 model.equations)))

-- The first rule that a head of this form and with these numbers breaks at a model.
abbrev pub IsMisfitBy : Form → List (HeadNumber ℕ) → MixedModel → Refusal → Type 0
IsMisfitBy form numbers model refused =
    IsUndeclared numbers model refused
    ⊎ ((first_undeclared model numbers ≡ None) × IsUnfitWhole form numbers model refused)

-- why there is no problem: this refusal, or memory ran out
abbrev pub IsWhyNoProblem : Form → List (HeadNumber ℕ) → MixedModel → ReadModel → Type 0
IsWhyNoProblem form numbers model (Refused refused) = IsMisfitBy form numbers model refused
IsWhyNoProblem form numbers model NoMemory = Unit {0}

-- and that of the head of a text
abbrev pub IsMisfitOf : ℕ → Form → List ℕ → MixedModel → Refusal → Type 0
IsMisfitOf p form text model refused = IsMisfitBy form (numbers_of_head p form text) model refused
