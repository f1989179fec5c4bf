-- The problem that a head says of a model: a value for each symbol and a right side for each equation, or costs.
use Rattle.std.specs.Prelude.{◌≡◌, ℕ, ◌≤◌, Bool, false, not, List, [], ◌∷◌, ◌++◌, find, fold, length, map, nat_eq}
use Rattle.std.specs.Prelude.{position, if◌then◌else◌, slice_get, Option, Some, None, unwrap_or}
use Rattle.std.specs.List.{list_any}
use Rattle.std.specs.Str.{bytes_eq}
use Rattle.mixed_model.specs.Models.{MixedModel, mixed_matrix_of, symbol_of}
use Rattle.mixed_model.specs.Names.{has_name, name_at}
use Rattle.value_list_laws.specs.FixedSymbols.{IsSymbolPlace}
use Rattle.value_list_laws.specs.ListedValues.{symbol_count, symbols_before, values_of}
use Rattle.problem_heads.specs.HeadNumbers.{HeadNumber, number_for, numbers_of_head}
use Rattle.problem_heads.specs.declared.form.Form.{Form}
use Rattle.problem_heads.specs.declared.form.Form.TheVariants as forms
use Rattle.problem_heads.specs.declared.problem.Problem.{Problem}
use Rattle.problem_heads.specs.declared.problem.Problem.TheVariants.{Repair, Solve}

-- the greatest number of different costs
abbrev pub level_limit : ℕ
level_limit = 16

-- whether a symbol stands at an equation and an unknown, where both are there
abbrev pub symbol_between : MixedModel → Option ℕ → Option ℕ → Bool
symbol_between model None unknown = false
symbol_between model (Some i) None = false
symbol_between model (Some i) (Some j) = symbol_of model i j

-- Whether a model has what a line of a head names: an equation, or an equation and an unknown with a symbol between.
abbrev pub is_declared : MixedModel → List (List ℕ) → Bool
is_declared model [] = false
is_declared model (equation ∷ []) = has_name model.equations equation
is_declared model (equation ∷ unknown ∷ []) =
    symbol_between model (position (bytes_eq equation) model.equations) (position (bytes_eq unknown) model.unknowns)
is_declared model (equation ∷ unknown ∷ next ∷ names) = false

-- the first that is given for names that the model has not
abbrev pub first_undeclared : {N : Type 0} → MixedModel → List (HeadNumber N) → Option (HeadNumber N)
first_undeclared model numbers = find (λ given. not (is_declared model given.names)) numbers

-- the names of a place
abbrev pub place_names : MixedModel → ℕ → ℕ → List (List ℕ)
place_names model i j = name_at model.equations i ∷ name_at model.unknowns j ∷ []

-- for each of some equations the number that is given for it, or else this one
abbrev pub sides_of : {N : Type 0} → List (HeadNumber N) → N → List (List ℕ) → List N
sides_of numbers default equations = map (λ equation. unwrap_or (number_for numbers (equation ∷ [])) default) equations

-- one number more, unless it is there
abbrev pub see_number : List ℕ → ℕ → List ℕ
see_number seen number = if list_any (nat_eq number) seen then seen else seen ++ number ∷ []

-- the different ones of some numbers, in the order in which they first stand
abbrev pub different : List ℕ → List ℕ
different numbers = fold see_number [] numbers

-- These are the values of a model's symbols, by rising equation and then unknown: each is given for its place.
pub record AreGivenValues {N : Type 0} (numbers : List (HeadNumber N)) (model : MixedModel) (values : List N)
    : Type 0 where
  pub count : length values ≡ symbol_count (mixed_matrix_of model)
  pub each : (i j : ℕ) → IsSymbolPlace (mixed_matrix_of model) i j
      → (value : N) × (number_for numbers (place_names model i j) ≡ Some value)
      × (slice_get values (symbols_before (mixed_matrix_of model) i j) ≡ Some value)

-- The problem of solving: the model has what is named; for each symbol a value is given; a right side that is not given
-- is 0.
pub record IsSolveProblem (numbers : List (HeadNumber ℕ)) (model : MixedModel) (values right : List ℕ) : Type 0 where
  pub declared : first_undeclared model numbers ≡ None
  pub count : length values ≡ symbol_count (mixed_matrix_of model)
  pub values_are : (i j : ℕ) → IsSymbolPlace (mixed_matrix_of model) i j
      → number_for numbers (place_names model i j) ≡ Some (values_of (mixed_matrix_of model) values i j)
  pub right_is : right ≡ sides_of numbers 0 model.equations

-- The problem of repairing: the model has what is named; a cost that is not given is 1; at most 16 costs differ.
pub record IsRepairProblem (numbers : List (HeadNumber ℕ)) (model : MixedModel) (costs : List ℕ) : Type 0 where
  pub declared : first_undeclared model numbers ≡ None
  pub costs_are : costs ≡ sides_of numbers 1 model.equations
  pub few : length (different costs) ≤ level_limit

-- A model has a problem by a head of this form and with these numbers.
abbrev pub HasProblem : Form → List (HeadNumber ℕ) → MixedModel → Type 0
HasProblem forms.Solve numbers model = (values right : List ℕ) × IsSolveProblem numbers model values right
HasProblem forms.Repair numbers model = (costs : List ℕ) × IsRepairProblem numbers model costs

-- The problem that a head of this form and with these numbers says of a model.
abbrev pub IsProblemBy : {F : Type 0} → (F → ℕ) → Form → List (HeadNumber ℕ) → MixedModel → Problem F → Type 0
IsProblemBy number form numbers model (Solve values right) =
    (form ≡ forms.Solve) × IsSolveProblem numbers model (map number values.items) (map number right.items)
IsProblemBy number form numbers model (Repair costs) =
    (form ≡ forms.Repair) × IsRepairProblem numbers model costs.items

-- the numbers of a problem: the values and the right sides, or the costs
abbrev pub problem_numbers : {F : Type 0} → (F → ℕ) → Problem F → List (List ℕ)
problem_numbers number (Solve values right) = map number values.items ∷ map number right.items ∷ []
problem_numbers number (Repair costs) = costs.items ∷ []

-- and that the head of a text says
abbrev pub IsProblemOf : {F : Type 0} → (F → ℕ) → ℕ → Form → List ℕ → MixedModel → Problem F → Type 0
IsProblemOf number p form text model problem = IsProblemBy number form (numbers_of_head p form text) model problem
