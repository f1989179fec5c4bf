-- What is left of the text of a plan once a piece of it is put.
use Rattle.std.proofs.Common.{◌≡◌, ℕ, ◌+◌, ◌<◌, List, ◌++◌, length, get_or, drop, ap}
use Rattle.text_writer.proofs.Putting.{drop_next}
use Rattle.mixed_model.specs.Layers.{Layers}
use Rattle.mixed_model.specs.Models.{MixedModel}
use Rattle.solve_plan.specs.declared.steps.Step.{Step}
use Rattle.solve_plan.specs.declared.steps.StepRow.{StepRow}
use Rattle.answer_texts.specs.PlanTexts.{column_item, column_items, term_item, term_items, row_line, step_row_lines, step_text, steps_text}

pub columns_left : (model : MixedModel) (layers : Layers) (columns : List ℕ) (i d : ℕ) → i < length columns →
    column_items model layers (drop i columns) ≡ column_item model layers (get_or columns i d) ++ column_items model layers (drop (i + 1) columns)
columns_left model layers columns i d within = ap (column_items model layers) (drop_next columns i d within)

pub terms_left : {T : Type 0} (number : T → ℕ) (model : MixedModel) (terms : List (T × ℕ)) (i : ℕ) (d : T × ℕ) → i < length terms →
    term_items number model (drop i terms) ≡ term_item model (number (get_or terms i d).0) (get_or terms i d).1 ++ term_items number model (drop (i + 1) terms)
terms_left {T} number model terms i d within = ap (λ (ts : List (T × ℕ)). term_items number model ts) (drop_next terms i d within)

pub rows_left : {T : Type 0} (number : T → ℕ) (model : MixedModel) (rows : List (StepRow T)) (i : ℕ) (d : StepRow T) → i < length rows →
    step_row_lines number model (drop i rows) ≡ row_line number model (get_or rows i d) ++ step_row_lines number model (drop (i + 1) rows)
rows_left {T} number model rows i d within = ap (λ (rs : List (StepRow T)). step_row_lines number model rs) (drop_next rows i d within)

pub steps_left : {T : Type 0} (number : T → ℕ) (model : MixedModel) (layers : Layers) (steps : List (Step T)) (i : ℕ) (d : Step T) → i < length steps →
    steps_text number model layers (i + 1) (drop i steps)
    ≡ step_text number model layers (i + 1) (get_or steps i d) ++ steps_text number model layers (i + 1 + 1) (drop (i + 1) steps)
steps_left {T} number model layers steps i d within = ap (λ (ss : List (Step T)). steps_text number model layers (i + 1) ss) (drop_next steps i d within)
