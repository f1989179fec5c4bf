-- The text of a report on a model, by its lines.
use Rattle.std.specs.Prelude.{ℕ, ◌-◌, List, [], ◌∷◌, ◌++◌, codes}
use Rattle.text_writer.specs.Numbers.{spaced}
use Rattle.mixed_model.specs.Models.{MixedModel}
use Rattle.solve_plan.specs.declared.told.Report.{Report}
use Rattle.mixed_model.specs.Names.{name_at}

-- the line of a number behind a word
abbrev pub count_line : List ℕ → ℕ → List ℕ
count_line word number = word ++ spaced number ++ codes "\n"

-- the line of a name behind a word
abbrev pub name_line : List ℕ → List ℕ → List ℕ
name_line word name = word ++ codes " " ++ name ++ codes "\n"

-- the lines of some numbers, each with its name behind a word
abbrev pub name_lines : List ℕ → List (List ℕ) → List ℕ → List ℕ
name_lines word names [] = []
name_lines word names (number ∷ numbers) = name_line word (name_at names number) ++ name_lines word names numbers

-- the numbers of equations and of unknowns, and the rank
abbrev pub sizes_line : Report → List ℕ
sizes_line report = codes "equations" ++ spaced report.equations ++ codes " unknowns" ++ spaced report.unknowns
    ++ codes " rank" ++ spaced report.rank ++ codes "\n"

-- how many equations there are above the rank, and the surplus ones
abbrev pub surplus_text : MixedModel → Report → List ℕ
surplus_text model report = count_line (codes "too many") (report.equations - report.rank)
    ++ name_lines (codes "surplus") model.equations report.surplus

-- how many unknowns there are above the rank, and the undetermined ones
abbrev pub undetermined_text : MixedModel → Report → List ℕ
undetermined_text model report = count_line (codes "too few") (report.unknowns - report.rank)
    ++ name_lines (codes "undetermined") model.unknowns report.undetermined

-- the text of a report on a model
abbrev pub report_text : MixedModel → Report → List ℕ
report_text model report = sizes_line report ++ surplus_text model report ++ undetermined_text model report
