-- The text of a repair, by its lines. Equations are counted from 0.
use Rattle.std.specs.Prelude.{ℕ, ◌+◌, Bool, true, false, List, [], ◌∷◌, ◌++◌, codes, length}
use Rattle.residue_theory.specs.Sets.{has}
use Rattle.text_writer.specs.Numbers.{spaced}
use Rattle.mixed_model.specs.Models.{MixedModel}
use Rattle.mixed_model.specs.Names.{name_at}
use Rattle.cert_text.specs.Contents.{Contents}
use Rattle.cert_text.specs.Texts.{contents_text}
use Rattle.answer_texts.specs.ReportTexts.{count_line}
use Rattle.repair_checker.specs.declared.repair.Level.{Level}
use Rattle.repair_checker.specs.declared.repair.Repair.{Repair}

-- the line of an equation that is dropped, and its cost
abbrev pub drop_line : List ℕ → ℕ → List ℕ
drop_line name cost = codes "drop " ++ name ++ spaced cost ++ codes "\n"

-- such a line, unless the equation is kept
abbrev pub drop_line_unless : Bool → List ℕ → ℕ → List ℕ
drop_line_unless true name cost = []
drop_line_unless false name cost = drop_line name cost

-- the lines of the equations that are not kept, among some with these costs; the first of them is equation j
abbrev pub drop_lines : List (List ℕ) → List ℕ → ℕ → List ℕ → List ℕ
drop_lines names kept j [] = []
drop_lines names kept j (cost ∷ costs) =
    drop_line_unless (has kept j) (name_at names j) cost ++ drop_lines names kept (j + 1) costs

-- the line of a level: its cost, and the rank of the equations that cost at least as much
abbrev pub level_line : ℕ → ℕ → List ℕ
level_line cost rank = codes "level" ++ spaced cost ++ codes " rank" ++ spaced rank ++ codes "\n"

-- a level, with the form that shows its rank
abbrev pub level_text : {F : Type 0} → Level F → List ℕ
level_text level = level_line level.cost level.ccf.rank ++ contents_text level.ccf

-- some levels
abbrev pub levels_text : {F : Type 0} → List (Level F) → List ℕ
levels_text [] = []
levels_text (level ∷ levels) = level_text level ++ levels_text levels

-- how many equations are kept, and the form that shows that these are independent
abbrev pub kept_text : List ℕ → Contents → List ℕ
kept_text kept ccf = count_line (codes "kept") (length kept) ++ contents_text ccf

-- a repair: its cost, the equations that are dropped, the levels, and what is kept
abbrev pub repair_text : {F : Type 0} → MixedModel → List ℕ → Repair F → List ℕ
repair_text model costs repair = count_line (codes "repair") repair.cost
    ++ drop_lines model.equations repair.kept 0 costs ++ levels_text repair.levels
    ++ kept_text repair.kept repair.kept_ccf
