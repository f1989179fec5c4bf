-- The text of conflict sets, by its lines. Equations are counted from 0.
use Rattle.std.specs.Prelude.{ℕ, ◌<◌, List, [], ◌∷◌, ◌++◌, codes, length}
use Rattle.std.specs.List.{All}
use Rattle.mixed_model.specs.Models.{MixedModel}
use Rattle.mixed_model.specs.Names.{name_at}
use Rattle.answer_texts.specs.ReportTexts.{count_line}
use Rattle.study_answers.specs.declared.conflicts.Conflict.{Conflict}

-- the name of an equation, behind a space
abbrev pub name_item : List (List ℕ) → ℕ → List ℕ
name_item names equation = codes " " ++ name_at names equation

-- the names of some equations
abbrev pub name_items : List (List ℕ) → List ℕ → List ℕ
name_items names [] = []
name_items names (equation ∷ equations) = name_item names equation ++ name_items names equations

-- the line of an equation and its conflict set
abbrev pub conflict_line : List (List ℕ) → Conflict → List ℕ
conflict_line names conflict = codes "conflict " ++ name_at names conflict.equation ++ codes ":"
    ++ name_items names conflict.set ++ codes "\n"

-- the lines of some equations, each with its conflict set
abbrev pub conflict_lines : List (List ℕ) → List Conflict → List ℕ
conflict_lines names [] = []
conflict_lines names (conflict ∷ conflicts) = conflict_line names conflict ++ conflict_lines names conflicts

-- how many conflict sets there are, and these
abbrev pub conflicts_text : MixedModel → List Conflict → List ℕ
conflicts_text model conflicts =
    count_line (codes "conflicts") (length conflicts) ++ conflict_lines model.equations conflicts

-- the equation, and those of its set, are among n
abbrev pub IsConflictIn : ℕ → Conflict → Type 0
IsConflictIn n conflict = (conflict.equation < n) × All (λ member. member < n) conflict.set
