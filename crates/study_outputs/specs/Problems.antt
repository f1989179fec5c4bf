-- Problems of values and right sides, and how they are solved, and problems of costs.
use Rattle.std.specs.Prelude.{ℕ, ◌≡◌, length, map}
use Rattle.mixed_model.specs.Layers.{Layers}
use Rattle.mixed_model.specs.Models.{MixedModel, mixed_matrix_of}
use Rattle.repair_checker.specs.Costs.{AreCosts}
use Rattle.value_list_laws.specs.ListedValues.{symbol_count}
use Rattle.problem_heads.specs.declared.problem.Problem.{Problem}
use Rattle.problem_heads.specs.declared.problem.Problem.TheVariants.{Repair, Solve}
use Rattle.study_answers.specs.Solvings.{IsSolvingBy}
use Rattle.study_answers.specs.declared.solving.Solving.{Solving}

-- there is a value for each symbol of the model, and a right side for each equation
abbrev pub IsSolvable : {T : Type 0} → MixedModel → Problem T → Type 0
IsSolvable model (Solve values right) =
    (length values.items ≡ symbol_count (mixed_matrix_of model)) × (length right.items ≡ length model.equations)
IsSolvable model (Repair costs) = ⊥

-- solving the model with them tells this
abbrev pub IsSolvingOfProblem : {T : Type 0} → (T → ℕ) → ℕ → MixedModel → Layers → Problem T → Solving T → Type 0
IsSolvingOfProblem number p model layers (Solve values right) solving =
    IsSolvingBy number p model layers (map number values.items) (map number right.items) solving
IsSolvingOfProblem number p model layers (Repair costs) solving = ⊥

-- there are costs for its equations, as a cheapest repair takes them
abbrev pub IsPriced : {T : Type 0} → MixedModel → Problem T → Type 0
IsPriced model (Solve values right) = ⊥
IsPriced model (Repair costs) = AreCosts (length model.equations) costs.items
