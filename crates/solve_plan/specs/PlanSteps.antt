-- The steps in which the parts of a form are solved, and what each tells.
use Rattle.std.specs.Prelude.{ℕ, ◌+◌, ◌<◌, ◌≡◌, ◌≢◌, ◌⊎◌, ◌==◌, ◌&&◌, Bool, true, false, cond, List, [], ◌∷◌, ◌++◌, length, map, slice_index, slice_index_or}
use Rattle.residue_theory.specs.Sets.{has}
use Rattle.mixed_model.specs.Layers.{Layers}
use Rattle.cert_text.specs.Contents.{Contents}
use Rattle.cert_text.specs.Readings.{matrix_of, pattern_of}
use Rattle.cert_text.specs.declared.part.CcfBlock.{CcfBlock}
use Rattle.cert_text.specs.declared.part.CcfPart.{CcfPart}
use Rattle.solve_plan.specs.declared.steps.Step.{Step}
use Rattle.solve_plan.specs.declared.steps.StepPart.{StepPart}
use Rattle.solve_plan.specs.declared.steps.StepPart.TheVariants.{First, Block, Last}
use Rattle.solve_plan.specs.declared.steps.StepRow.{StepRow}
use Rattle.solve_plan.specs.declared.steps.StepRow.TheVariants.{Combined, Symbols}
use Rattle.solve_plan.specs.Marks.{AreMembersOf}

-- whether a part has no column and no row
abbrev pub is_bare : CcfPart → Bool
is_bare part = (length part.columns == 0) && ((length part.q_rows == 0) && (length part.t_rows == 0))

-- a tail, unless it is bare
abbrev pub tail_steps : StepPart → CcfPart → List (StepPart × CcfPart)
tail_steps name part = cond (is_bare part) [] ((name, part) ∷ [])

-- the blocks from the last to the first, which has number k
abbrev pub block_steps : ℕ → List CcfBlock → List (StepPart × CcfPart)
block_steps k [] = []
block_steps k (block ∷ blocks) = block_steps (k + 1) blocks ++ (Block k, block.part) ∷ []

-- the parts in the order in which they are solved: the last tail, the blocks from the last to the first, the first tail
abbrev pub solved_parts : Contents → List (StepPart × CcfPart)
solved_parts c = tail_steps Last c.last ++ block_steps 0 c.blocks ++ tail_steps First c.first

-- what stands in a row of S as coefficients and the equations of their Q rows
abbrev pub step_terms : {T : Type 0} → List ℕ → List (ℕ × T) → List (T × ℕ)
step_terms origins entries = map (λ entry. (entry.1, slice_index origins entry.0)) entries

-- Q row q of the form, which S combines, and T row t
abbrev pub combined_row : Layers → Contents → ℕ → StepRow ℕ
combined_row layers c q = Combined (step_terms layers.q_origins (slice_index_or c.s q []))

abbrev pub symbol_row : Layers → ℕ → StepRow ℕ
symbol_row layers t = Symbols (slice_index layers.t_origins t)

-- the rows of a part
abbrev pub rows_of_part : Layers → Contents → CcfPart → List (StepRow ℕ)
rows_of_part layers c part = map (combined_row layers c) part.q_rows ++ map (symbol_row layers) part.t_rows

-- a row with each coefficient by its number
abbrev pub row_numbers : {T : Type 0} → (T → ℕ) → StepRow T → StepRow ℕ
row_numbers number (Combined terms) = Combined (map (λ term. (number term.0, term.1)) terms)
row_numbers number (Symbols equation) = Symbols equation

-- at some row of the part an entry stands at column x: a number of P that is not 0, or a symbol
abbrev pub HasEntryAt : Contents → CcfPart → ℕ → Type 0
HasEntryAt c part x = ((i : ℕ) × (has part.q_rows i ≡ true) × (matrix_of c.p i x ≢ 0))
    ⊎ ((i : ℕ) × (has part.t_rows i ≡ true) × (pattern_of c.t i x ≡ true))

-- the step of a part: its columns, its rows, and the other columns at which these have entries
pub record IsStepOf {T : Type 0} (number : T → ℕ) (layers : Layers) (c : Contents) (of : StepPart × CcfPart)
    (step : Step T) : Type 0 where
  pub name : step.part ≡ of.0
  pub columns : step.columns ≡ of.1.columns
  pub rows : map (row_numbers number) step.rows ≡ rows_of_part layers c of.1
  pub uses : AreMembersOf c.shape.columns (λ x. (has of.1.columns x ≡ false) × HasEntryAt c of.1 x) step.uses

-- step k is that of part k
pub record AreStepsOf {T : Type 0} (number : T → ℕ) (layers : Layers) (c : Contents)
    (parts : List (StepPart × CcfPart)) (steps : List (Step T)) : Type 0 where
  pub count : length steps ≡ length parts
  pub each : (k : ℕ) (of : StepPart × CcfPart) (step : Step T) → k < length parts →
      IsStepOf number layers c (slice_index_or parts k of) (slice_index_or steps k step)

-- steps of these parts are put to others
abbrev pub AddsSteps : {T : Type 0} → (T → ℕ) → Layers → Contents → List (StepPart × CcfPart) → List (Step T) →
    List (Step T) → Type 0
AddsSteps number layers c more old now = (parts : List (StepPart × CcfPart)) → AreStepsOf number layers c parts old →
    AreStepsOf number layers c (parts ++ more) now
