-- The ranges that a plan keeps in which a model is solved, and the lengths of its lists.
use Rattle.std.specs.Prelude.{ℕ, ◌<◌, ◌≤◌, length}
use Rattle.std.specs.List.{All}
use Rattle.limits.specs.Limits.{column_limit}
use Rattle.solve_plan.specs.declared.steps.Step.{Step}
use Rattle.solve_plan.specs.declared.steps.StepPart.{StepPart}
use Rattle.solve_plan.specs.declared.steps.StepPart.TheVariants.{First, Block, Last}
use Rattle.solve_plan.specs.declared.steps.StepRow.{StepRow}
use Rattle.solve_plan.specs.declared.steps.StepRow.TheVariants.{Combined, Symbols}

-- a block has a number below n
abbrev pub IsPartBelow : ℕ → StepPart → Type 0
IsPartBelow n First = Unit {0}
IsPartBelow n (Block block) = block < n
IsPartBelow n Last = Unit {0}

-- a row is made of equations below n
abbrev pub IsRowBelow : {T : Type 0} → ℕ → StepRow T → Type 0
IsRowBelow n (Combined terms) = All (λ term. term.1 < n) terms
IsRowBelow n (Symbols equation) = equation < n

-- a step of m equations and n columns
pub record IsStepIn {T : Type 0} (m n : ℕ) (step : Step T) : Type 0 where
  pub part : IsPartBelow column_limit step.part
  pub columns : All (λ column. column < n) step.columns
  pub rows : All (IsRowBelow m) step.rows
  pub uses : All (λ column. column < n) step.uses

-- a sum has at most m terms, and its coefficients are residues modulo p
abbrev pub IsShortRow : {T : Type 0} → (T → ℕ) → ℕ → ℕ → StepRow T → Type 0
IsShortRow number p m (Combined terms) = (length terms ≤ m) × All (λ term. number term.0 < p) terms
IsShortRow number p m (Symbols equation) = Unit {0}

-- a step uses at most k columns, and has short rows
pub record IsShortStep {T : Type 0} (number : T → ℕ) (p m k : ℕ) (step : Step T) : Type 0 where
  pub uses : length step.uses ≤ k
  pub short : All (IsShortRow number p m) step.rows
