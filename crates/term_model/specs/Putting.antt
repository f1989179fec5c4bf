-- Terms that are put into a model: each stands at a place of its own.
use Rattle.std.specs.Prelude.{◌≡◌, ◌≢◌, ℕ, ◌<◌, Bool, true, false, List, [], ◌∷◌, ◌++◌, length, map, slice_index_or}
use Rattle.std.specs.List.{list_any}
use Rattle.mixed_model.specs.Names.{has_name}
use Rattle.mixed_model.specs.declared.errors.AddError.{AddError}
use Rattle.mixed_model.specs.declared.errors.AddError.TheVariants.{NoMemory}
use Rattle.mixed_model.specs.Models.{MixedModel, constant_at, symbol_of}
use Rattle.term_model.specs.declared.value.Value.{Value}
use Rattle.term_model.specs.declared.value.Value.TheVariants.{Constant, Symbol}
use Rattle.term_model.specs.Terms.{Term, said_of, stands_at, symbol_said}

-- the number of a value: 0 of a symbol
abbrev pub constant_of_value : {F : Type 0} → (F → ℕ) → Value F → ℕ
constant_of_value number (Constant x) = number x
constant_of_value number Symbol = 0

abbrev pub is_symbol : {F : Type 0} → Value F → Bool
is_symbol (Constant x) = false
is_symbol Symbol = true

-- the term that a value is, in an equation at an unknown
abbrev pub term_of_value : {F : Type 0} → (F → ℕ) → List ℕ → List ℕ → Value F → Term
term_of_value number equation unknown value = record {
  equation = equation;
  unknown = unknown;
  constant = constant_of_value number value;
  symbol = is_symbol value;
}

-- nothing stands in a model's equations
abbrev pub IsBlank : MixedModel → Type 0
IsBlank model = model.rows ≡ map (λ name. []) model.equations

-- no term of these stands at the place
abbrev pub IsFree : List Term → List ℕ → List ℕ → Type 0
IsFree terms equation unknown = list_any (stands_at equation unknown) terms ≡ false

-- each of these stands where no term before it does
abbrev pub AreFree : List Term → List Term → Type 0
AreFree before [] = Unit {0}
AreFree before (term ∷ terms) =
    IsFree before term.equation term.unknown × AreFree (before ++ term ∷ []) terms

-- a term's place is one of a model's
pub record IsPlaced (equations unknowns : List (List ℕ)) (term : Term) : Type 0 where
  pub equation : has_name equations term.equation ≡ true
  pub unknown : has_name unknowns term.unknown ≡ true

-- The place of an equation and an unknown in a model, by its numbers.
pub record IsPlaceOf (model : MixedModel) (equation unknown : List ℕ) (i j : ℕ) : Type 0 where
  pub row : i < length model.equations
  pub column : j < length model.unknowns
  pub equation_is : slice_index_or model.equations i [] ≡ equation
  pub unknown_is : slice_index_or model.unknowns j [] ≡ unknown

-- At each place of a model stands what these terms say of it.
pub record Says (p : ℕ) (terms : List Term) (model : MixedModel) : Type 0 where
  pub constants : (i j : ℕ) → i < length model.equations → j < length model.unknowns
      → constant_at model i j
      ≡ said_of p terms (slice_index_or model.equations i []) (slice_index_or model.unknowns j [])
  pub symbols : (i j : ℕ) → i < length model.equations → j < length model.unknowns
      → symbol_of model i j
      ≡ symbol_said terms (slice_index_or model.equations i []) (slice_index_or model.unknowns j [])

-- a term with a symbol, or with a constant other than 0
abbrev pub CountsAsTerm : Term → Type 0
CountsAsTerm term = term.symbol ≡ false → term.constant ≢ 0

-- What putting terms leaves, whatever terms were put before.
abbrev pub PutsTerms : ℕ → MixedModel → MixedModel → List Term → Type 0
PutsTerms p old new terms =
    (before : List Term) → Says p before old → AreFree before terms → Says p (before ++ terms) new

-- Why they are not put: where nothing stands at their places, memory alone is wanting.
abbrev pub LacksRoom : ℕ → MixedModel → List Term → AddError → Type 0
LacksRoom p old terms error =
    (before : List Term) → Says p before old → AreFree before terms → error ≡ NoMemory
