-- The text of a plan to solve a model, by its lines. Steps, blocks, columns and equations are counted from 0 here, and
-- steps and blocks from 1 in the text.
use Rattle.std.specs.Prelude.{ℕ, ◌+◌, List, [], ◌∷◌, ◌++◌, codes, slice_index_or}
use Rattle.text_writer.specs.Numbers.{spaced}
use Rattle.mixed_model.specs.Layers.{Layers}
use Rattle.mixed_model.specs.Models.{MixedModel}
use Rattle.mixed_model.specs.declared.origin.Origin.TheVariants.{Unknown}
use Rattle.solve_plan.specs.declared.steps.Plan.{Plan}
use Rattle.solve_plan.specs.declared.steps.Step.{Step}
use Rattle.solve_plan.specs.declared.steps.StepPart.{StepPart}
use Rattle.solve_plan.specs.declared.steps.StepPart.TheVariants.{First, Block, Last}
use Rattle.solve_plan.specs.declared.steps.StepRow.{StepRow}
use Rattle.solve_plan.specs.declared.steps.StepRow.TheVariants.{Combined, Symbols}
use Rattle.answer_texts.specs.LayerTexts.{column_name}
use Rattle.mixed_model.specs.Names.{name_at}

-- the part of a form, behind a space
abbrev pub step_part_text : StepPart → List ℕ
step_part_text First = codes " first"
step_part_text (Block block) = codes " block" ++ spaced (block + 1)
step_part_text Last = codes " last"

-- the line of a step's number and part
abbrev pub step_head : ℕ → StepPart → List ℕ
step_head number part = codes "step" ++ spaced number ++ step_part_text part ++ codes "\n"

-- the name of a column, behind a space
abbrev pub column_item : MixedModel → Layers → ℕ → List ℕ
column_item model layers column =
    codes " " ++ column_name model (slice_index_or layers.column_origins column (Unknown 0))

-- the names of columns, each behind a space
abbrev pub column_items : MixedModel → Layers → List ℕ → List ℕ
column_items model layers [] = []
column_items model layers (column ∷ columns) = column_item model layers column ++ column_items model layers columns

-- the line of the names of columns behind a word
abbrev pub named_columns_line : List ℕ → MixedModel → Layers → List ℕ → List ℕ
named_columns_line word model layers columns = word ++ column_items model layers columns ++ codes "\n"

-- a coefficient and the name of its equation, behind a space
abbrev pub term_item : MixedModel → ℕ → ℕ → List ℕ
term_item model coefficient equation = spaced coefficient ++ codes "*" ++ name_at model.equations equation

-- a sum of equations, each term behind a space
abbrev pub term_items : {T : Type 0} → (T → ℕ) → MixedModel → List (T × ℕ) → List ℕ
term_items number model [] = []
term_items number model (term ∷ terms) = term_item model (number term.0) term.1 ++ term_items number model terms

-- how a row is made, behind a space: a sum of equations, or a mark and the equation whose symbols it has
abbrev pub row_text : {T : Type 0} → (T → ℕ) → MixedModel → StepRow T → List ℕ
row_text number model (Combined terms) = term_items number model terms
row_text number model (Symbols equation) = codes " ?" ++ name_at model.equations equation

-- the line of a row
abbrev pub row_line : {T : Type 0} → (T → ℕ) → MixedModel → StepRow T → List ℕ
row_line number model row = codes "by" ++ row_text number model row ++ codes "\n"

-- the lines of rows
abbrev pub step_row_lines : {T : Type 0} → (T → ℕ) → MixedModel → List (StepRow T) → List ℕ
step_row_lines number model [] = []
step_row_lines number model (row ∷ rows) = row_line number model row ++ step_row_lines number model rows

-- the lines of a step: its number and part, the columns that it solves, its rows, and the columns that it uses
abbrev pub step_text : {T : Type 0} → (T → ℕ) → MixedModel → Layers → ℕ → Step T → List ℕ
step_text number model layers k step =
    step_head k step.part ++ named_columns_line (codes "for") model layers step.columns
    ++ step_row_lines number model step.rows ++ named_columns_line (codes "uses") model layers step.uses

-- the lines of steps, the first of them with this number
abbrev pub steps_text : {T : Type 0} → (T → ℕ) → MixedModel → Layers → ℕ → List (Step T) → List ℕ
steps_text number model layers k [] = []
steps_text number model layers k (step ∷ steps) =
    step_text number model layers k step ++ steps_text number model layers (k + 1) steps

-- the text of a plan to solve a model
abbrev pub plan_text : {T : Type 0} → (T → ℕ) → MixedModel → Layers → Plan T → List ℕ
plan_text number model layers plan = steps_text number model layers 1 plan.steps
