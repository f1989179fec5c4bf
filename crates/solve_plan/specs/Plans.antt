-- What a plan to solve a model tells.
use Rattle.std.specs.Prelude.{ℕ, ◌+◌, ◌<◌, ◌≡◌, ◌↔◌, true, List, [], length, map, slice_index_or}
use Rattle.residue_theory.specs.Sets.{has}
use Rattle.mixed_matrices.specs.Forms.{diagonal_part, transformed}
use Rattle.mixed_matrices.specs.LayeredMatrices.{LayeredMatrix}
use Rattle.mixed_matrices.specs.Models.{MixedMatrix}
use Rattle.mixed_matrices.specs.StructuralRanks.{IsLayeredRank}
use Rattle.mixed_model.specs.Layers.{Layers, layered_matrix_of}
use Rattle.mixed_model.specs.Models.{MixedModel, IsModel, mixed_matrix_of}
use Rattle.mixed_layering.specs.Layers.{AreLayersOf, origins_of}
use Rattle.cert_text.specs.Contents.{Contents}
use Rattle.cert_text.specs.Readings.{StandsOnce, matrix_of, parts_of}
use Rattle.cert_text.specs.Right.{IsRightCcf}
use Rattle.cert_text.specs.declared.part.CcfPart.{CcfPart}
use Rattle.solve_plan.specs.declared.steps.Plan.{Plan}
use Rattle.solve_plan.specs.declared.steps.Step.{Step}
use Rattle.solve_plan.specs.declared.steps.StepPart.{StepPart}
use Rattle.solve_plan.specs.declared.steps.StepPart.TheVariants.{First, Block, Last}
use Rattle.solve_plan.specs.PlanSteps.{AreStepsOf, HasEntryAt, solved_parts}

-- the part of a form that a step solves
abbrev pub part_number : Contents → StepPart → ℕ
part_number c First = 0
part_number c (Block k) = k + 1
part_number c Last = length c.blocks + 1

-- the columns of each step
abbrev pub step_columns : {T : Type 0} → List (Step T) → List (List ℕ)
step_columns steps = map (λ step. step.columns) steps

-- column x stands in one of the first n lists
abbrev pub IsAmongFirst : List (List ℕ) → ℕ → ℕ → Type 0
IsAmongFirst lists n x = (j : ℕ) × (j < n) × (has (slice_index_or lists j []) x ≡ true)

-- a step has as many rows as columns, and its part of the matrix has that structural rank
pub record IsSquareStep {T : Type 0} (p : ℕ) (L : LayeredMatrix) (c : Contents) (step : Step T) : Type 0 where
  pub rows : length step.rows ≡ length step.columns
  pub rank : IsLayeredRank p (diagonal_part (transformed (matrix_of c.s) L) (parts_of c) (part_number c step.part))
      (length step.columns)

-- the steps are those of the parts of the form, and solve M with the layered matrix L in this order
pub record IsPlanOf {T : Type 0} (number : T → ℕ) (p : ℕ) (M : MixedMatrix) (L : LayeredMatrix) (layers : Layers)
    (c : Contents) (plan : Plan T) : Type 0 where
  pub are : AreStepsOf number layers c (solved_parts c) plan.steps
  -- at a row of a step entries stand only at columns of this step and of those before
  pub only_solved : (k x : ℕ) (of : StepPart × CcfPart) → k < length plan.steps → x < L.columns →
      HasEntryAt c (slice_index_or (solved_parts c) k of).1 x → IsAmongFirst (step_columns plan.steps) (k + 1) x
  -- a step uses exactly those that stand in steps before
  pub uses_earlier : (k x : ℕ) (of : StepPart × CcfPart) (step : Step T) → k < length plan.steps → x < L.columns →
      (has (slice_index_or plan.steps k step).uses x ≡ true) ↔
      (HasEntryAt c (slice_index_or (solved_parts c) k of).1 x × IsAmongFirst (step_columns plan.steps) k x)
  -- each column stands in exactly one step
  pub once : StandsOnce L.columns (step_columns plan.steps)
  -- where the numbers of equations and of unknowns are the rank, each step is square and of full rank
  pub square : M.rows ≡ M.columns → M.rows ≡ c.rank → (k : ℕ) (step : Step T) → k < length plan.steps →
      IsSquareStep p L c (slice_index_or plan.steps k step)

-- it is a plan of each model of which these are the layers and for which the form is right
abbrev pub PlansEach : {T : Type 0} → (T → ℕ) → ℕ → Layers → Contents → Plan T → Type 0
PlansEach number p layers c plan =
    (model : MixedModel) → IsModel p model → (are : AreLayersOf model layers) →
    IsRightCcf p (mixed_matrix_of model) (layered_matrix_of layers) (origins_of layers are.split) c →
    IsPlanOf number p (mixed_matrix_of model) (layered_matrix_of layers) layers c plan
