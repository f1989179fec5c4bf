-- The length of the text of a plan.
use Rattle.std.proofs.Common.{ℕ, ◌+◌, ◌*◌, ◌^◌, ◌<◌, ◌≤◌, List, [], ◌∷◌, ◌++◌, length, codes, slice_index_or, arith}
use Rattle.std.proofs.Common.{mul-add, mul_comm, mul-le-mul_right, suc-mul}
use Rattle.std.specs.List.{All}
use Rattle.std.proofs.lemmas.List.{length-append}
use Rattle.std.proofs.lemmas.List.Elements.{All-head, All-tail}
use Rattle.text_writer.specs.Numbers.{spaced}
use Rattle.text_lengths.proofs.Lengths.{decimal-short, marked-short}
use Rattle.text_lengths.proofs.TextLengths.{lines_at_most}
use Rattle.mixed_model.specs.Layers.{Layers}
use Rattle.mixed_model.specs.Models.{MixedModel, IsModel}
use Rattle.mixed_model.specs.declared.origin.Origin.TheVariants.{Unknown}
use Rattle.solve_plan.specs.declared.steps.Plan.{Plan}
use Rattle.solve_plan.specs.declared.steps.Step.{Step}
use Rattle.solve_plan.specs.declared.steps.StepPart.{StepPart}
use Rattle.solve_plan.specs.declared.steps.StepPart.TheVariants.{First, Block, Last}
use Rattle.solve_plan.specs.declared.steps.StepRow.{StepRow}
use Rattle.solve_plan.specs.declared.steps.StepRow.TheVariants.{Combined, Symbols}
use Rattle.answer_texts.specs.LayerTexts.{column_name}
use Rattle.answer_texts.specs.PlanRanges.{IsPartBelow, IsStepIn, IsShortRow, IsShortStep}
use Rattle.answer_texts.specs.PlanTexts.{step_part_text, step_head, column_item, column_items, named_columns_line, term_item}
use Rattle.answer_texts.specs.PlanTexts.{term_items, row_text, row_line, step_row_lines, step_text, steps_text}
use Rattle.answer_texts.specs.PlanTexts.{plan_text}
use Rattle.answer_texts.specs.Rooms.{plan_room}
use Rattle.answer_texts.proofs.LayerLengths.{name-short, column-name-short}
use Rattle.mixed_model.specs.Names.{name_at}

part-short : (part : StepPart) → IsPartBelow 8192 part → length (step_part_text part) ≤ 11
part-short First below = omega arith
part-short (Block block) below = omega (arith, marked-short 32 (block + 1) (omega (arith, below)), length-append (codes " block") (spaced (block + 1)))
part-short Last below = omega arith

head-short : (number : ℕ) (part : StepPart) → number < 10000 → IsPartBelow 8192 part → length (step_head number part) ≤ 21
head-short number part few below =
    let one : List ℕ = codes "step" ++ spaced number in
    omega (
      arith,
      marked-short 32 number few,
      part-short part below,
      length-append (codes "step") (spaced number),
      length-append one (step_part_text part),
      length-append (one ++ step_part_text part) (codes "\n"),
    )

-- the sum of a number of each item
abbrev pub summed : {X : Type 0} → (X → ℕ) → List X → ℕ
summed f [] = 0
summed f (x ∷ xs) = f x + summed f xs

-- whether a row is a sum, and whether it has symbols
abbrev pub sum_count : {T : Type 0} → StepRow T → ℕ
sum_count (Combined terms) = 1
sum_count (Symbols equation) = 0

abbrev pub symbol_count : {T : Type 0} → StepRow T → ℕ
symbol_count (Combined terms) = 0
symbol_count (Symbols equation) = 1

-- the columns of a step, and its rows of each kind
abbrev pub columns_of : {T : Type 0} → Step T → ℕ
columns_of step = length step.columns

abbrev pub sums_of : {T : Type 0} → Step T → ℕ
sums_of step = summed sum_count step.rows

abbrev pub symbols_of : {T : Type 0} → Step T → ℕ
symbols_of step = summed symbol_count step.rows

-- a sum has at most m terms, and a step uses at most k columns
module _ {T : Type 0} (number : T → ℕ) (p digits : ℕ) (some : 0 < digits) (short : p ≤ 10 ^ digits)
    (model : MixedModel) (is : IsModel p model) (layers : Layers) (m k : ℕ) (few : k ≤ 8192) where
  column-short : (column : ℕ) → length (column_item model layers column) ≤ 98
  column-short column =
      let name : List ℕ = column_name model (slice_index_or layers.column_origins column (Unknown 0)) in
      omega (arith, column-name-short p model is (slice_index_or layers.column_origins column (Unknown 0)), length-append (codes " ") name)

  columns-short : (columns : List ℕ) → length (column_items model layers columns) ≤ 98 * length columns
  columns-short [] = omega arith
  columns-short (column ∷ columns) =
      omega (arith, column-short column, columns-short columns, length-append (column_item model layers column) (column_items model layers columns))

  columns-line-short : (word columns : List ℕ) → length (named_columns_line word model layers columns) ≤ length word + 1 + 98 * length columns
  columns-line-short word columns = omega (
    arith,
    columns-short columns,
    length-append word (column_items model layers columns),
    length-append (word ++ column_items model layers columns) (codes "\n"),
  )

  term-short : (coefficient equation : ℕ) → coefficient < p → length (term_item model coefficient equation) ≤ 98 + digits
  term-short coefficient equation small = omega (
    arith,
    decimal-short digits coefficient some (omega (arith, small, short)),
    name-short model.equations is.equations equation,
    length-append (spaced coefficient) (codes "*"),
    length-append (spaced coefficient ++ codes "*") (name_at model.equations equation),
  )

  terms-short : (terms : List (T × ℕ)) → All (λ term. number term.0 < p) terms → length (term_items number model terms) ≤ length terms * (98 + digits)
  terms-short [] small = omega arith
  terms-short (term ∷ terms) small =
      let here : number term.0 < p = All-head (λ (term : T × ℕ). number term.0 < p) term terms small in
      let rest = terms-short terms (All-tail (λ (term : T × ℕ). number term.0 < p) term terms small) in
      rw (suc-mul (length terms) (98 + digits)) (omega (
        arith,
        rest,
        term-short (number term.0) term.1 here,
        length-append (term_item model (number term.0) term.1) (term_items number model terms),
      ))

  -- room for the line of a sum
  abbrev sum_room : ℕ
  sum_room = 3 + (98 + digits) * m

  row-line : (row : StepRow T) (most : ℕ) → length (row_text number model row) ≤ most → length (row_line number model row) ≤ 3 + most
  row-line row most brief = omega (
    arith,
    brief,
    length-append (codes "by") (row_text number model row),
    length-append (codes "by" ++ row_text number model row) (codes "\n"),
  )

  row-line-short : (row : StepRow T) → IsShortRow number p m row →
      length (row_line number model row) ≤ sum_room * sum_count row + 101 * symbol_count row
  row-line-short (Combined terms) is_short =
      let terms_fit : length (term_items number model terms) ≤ (98 + digits) * m =
      omega (arith, terms-short terms is_short.1, mul-le-mul_right (98 + digits) is_short.0, mul_comm m (98 + digits)) in
      omega (arith, row-line (Combined terms) ((98 + digits) * m) terms_fit)
  row-line-short (Symbols equation) is_short =
      let name_fits : length (row_text number model (Symbols equation)) ≤ 98 =
      omega (arith, name-short model.equations is.equations equation, length-append (codes " ?") (name_at model.equations equation)) in
      omega (arith, row-line (Symbols equation) 98 name_fits)

  rows-short : (rows : List (StepRow T)) → All (IsShortRow number p m) rows →
      length (step_row_lines number model rows) ≤ sum_room * summed sum_count rows + 101 * summed symbol_count rows
  rows-short [] are = omega arith
  rows-short (row ∷ rows) are = omega (
    arith,
    row-line-short row (All-head (IsShortRow number p m) row rows are),
    rows-short rows (All-tail (IsShortRow number p m) row rows are),
    mul-add sum_room (sum_count row) (summed sum_count rows),
    length-append (row_line number model row) (step_row_lines number model rows),
  )

  step-short : (place e n : ℕ) (step : Step T) → place < 10000 → IsStepIn e n step → IsShortStep number p m k step →
      length (step_text number model layers place step) ≤ 30 + 98 * k + 98 * columns_of step + sum_room * sums_of step + 101 * symbols_of step
  step-short place e n step low within are =
      let one : List ℕ = step_head place step.part in
      let two : List ℕ = named_columns_line (codes "for") model layers step.columns in
      let three : List ℕ = step_row_lines number model step.rows in
      let four : List ℕ = named_columns_line (codes "uses") model layers step.uses in
      omega (
        arith,
        head-short place step.part low within.part,
        columns-line-short (codes "for") step.columns,
        rows-short step.rows are.short,
        columns-line-short (codes "uses") step.uses,
        are.uses,
        length-append one two,
        length-append (one ++ two) three,
        length-append (one ++ two ++ three) four,
      )

  steps-short : (place e n : ℕ) (steps : List (Step T)) → place + length steps ≤ 8195 → All (IsStepIn e n) steps → All (IsShortStep number p m k) steps →
      length (steps_text number model layers place steps)
      ≤ length steps * (30 + 98 * k) + 98 * summed columns_of steps + sum_room * summed sums_of steps + 101 * summed symbols_of steps
  steps-short place e n [] low within are = omega arith
  steps-short place e n (step ∷ steps) low within are =
      let here = step-short place e n step (omega (arith, low)) (All-head (IsStepIn e n) step steps within)
      (All-head (IsShortStep number p m k) step steps are) in
      let rest = steps-short (place + 1) e n steps (omega (arith, low)) (All-tail (IsStepIn e n) step steps within)
      (All-tail (IsShortStep number p m k) step steps are) in
      rw (suc-mul (length steps) (30 + 98 * k)) (omega (
        arith,
        here,
        rest,
        mul-add sum_room (sums_of step) (summed sums_of steps),
        length-append (step_text number model layers place step) (steps_text number model layers (place + 1) steps),
      ))

  pub plan-text-short : (e n : ℕ) (plan : Plan T) → length plan.steps ≤ k + 2 → All (IsStepIn e n) plan.steps → All (IsShortStep number p m k) plan.steps →
      summed columns_of plan.steps ≤ k → summed sums_of plan.steps ≤ m → summed symbols_of plan.steps ≤ m →
      length (plan_text number model layers plan) ≤ plan_room digits m k
  plan-text-short e n plan low within are columns sums symbols = omega (
    arith,
    steps-short 1 e n plan.steps (omega (arith, low, few)) within are,
    lines_at_most (length plan.steps) (k + 2) k k 30 98 low (omega arith),
    mul_comm (k + 2) k,
    mul-add k k 2,
    mul_comm sum_room (summed sums_of plan.steps),
    lines_at_most (summed sums_of plan.steps) m m m 3 (98 + digits) sums (omega arith),
    columns,
    symbols,
  )
