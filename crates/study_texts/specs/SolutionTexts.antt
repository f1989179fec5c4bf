-- The texts that tell how a model is solved, by their lines. Unknowns and columns are counted from 0, blocks from 1.
use Rattle.std.specs.Prelude.{ℕ, ◌+◌, ◌<◌, ◌≤◌, List, [], ◌∷◌, ◌++◌, codes, length}
use Rattle.std.specs.List.{All}
use Rattle.text_writer.specs.Numbers.{spaced}
use Rattle.mixed_model.specs.Layers.{Layers}
use Rattle.mixed_model.specs.Models.{MixedModel}
use Rattle.mixed_model.specs.Names.{name_at}
use Rattle.answer_texts.specs.PlanTexts.{named_columns_line}
use Rattle.answer_texts.specs.ReportTexts.{count_line}
use Rattle.study_answers.specs.declared.solving.Solving.{Solving}
use Rattle.study_answers.specs.declared.solving.Solving.TheVariants.{Open, Singular, Solution}

-- the line of an unknown and its number
abbrev pub value_line : List ℕ → ℕ → List ℕ
value_line name number = codes "unknown " ++ name ++ spaced number ++ codes "\n"

-- the lines of some unknowns and their numbers, each value seen by its number; the first of them is unknown j
abbrev pub value_lines : {T : Type 0} → (T → ℕ) → List (List ℕ) → ℕ → List T → List ℕ
value_lines number names j [] = []
value_lines number names j (value ∷ values) =
    value_line (name_at names j) (number value) ++ value_lines number names (j + 1) values

-- a solution: the number of each unknown
abbrev pub solution_text : {T : Type 0} → (T → ℕ) → MixedModel → List T → List ℕ
solution_text number model values = codes "solution\n" ++ value_lines number model.unknowns 0 values

-- a block that is singular, and its columns
abbrev pub singular_text : MixedModel → Layers → ℕ → List ℕ → List ℕ
singular_text model layers block columns =
    count_line (codes "singular block") block ++ named_columns_line (codes "for") model layers columns

-- a model that is not regular, whatever the values are
abbrev pub open_text : MixedModel → ℕ → List ℕ
open_text model rank = codes "equations" ++ spaced (length model.equations) ++ codes " unknowns"
    ++ spaced (length model.unknowns) ++ codes " rank" ++ spaced rank ++ codes "\n"

-- how a model is solved
abbrev pub solving_text : {T : Type 0} → (T → ℕ) → MixedModel → Layers → Solving T → List ℕ
solving_text number model layers (Open rank) = open_text model rank
solving_text number model layers (Singular block columns) = singular_text model layers block columns
solving_text number model layers (Solution values) = solution_text number model values

-- the columns are there, or no more numbers than unknowns are told
abbrev pub IsSolvingIn : {T : Type 0} → MixedModel → Layers → Solving T → Type 0
IsSolvingIn model layers (Open rank) = Unit {0}
IsSolvingIn model layers (Singular block columns) = All (λ column. column < layers.q.width) columns
IsSolvingIn model layers (Solution values) = length values ≤ length model.unknowns
