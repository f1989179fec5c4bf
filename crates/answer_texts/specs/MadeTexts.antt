-- The text about a made model and its form, by its lines.
use Rattle.std.specs.Prelude.{ℕ, ◌+◌, List, ◌++◌, codes, length}
use Rattle.text_writer.specs.Numbers.{spaced}
use Rattle.cert_text.specs.Contents.{Contents}
use Rattle.cert_text.specs.declared.part.CcfPart.{CcfPart}
use Rattle.answer_texts.specs.ReportTexts.{count_line}

-- the numbers of equations and of unknowns, which are one, and the number of split equations
abbrev pub system_line : ℕ → ℕ → List ℕ
system_line n split =
    codes "equations" ++ spaced n ++ codes " unknowns" ++ spaced n ++ codes " split" ++ spaced split ++ codes "\n"

-- the line of a tail behind a word: the number of its Q rows and T rows together, and that of its columns
abbrev pub tail_sizes : List ℕ → CcfPart → List ℕ
tail_sizes word part =
    word ++ spaced (length part.q_rows + length part.t_rows) ++ spaced (length part.columns) ++ codes "\n"

-- the text about a made model of n equations and n unknowns, so many of them split, with this form
abbrev pub made_text : ℕ → ℕ → Contents → List ℕ
made_text n split c = count_line (codes "make") n ++ system_line n split ++ count_line (codes "rank") c.rank
    ++ tail_sizes (codes "first") c.first ++ count_line (codes "blocks") (length c.blocks)
    ++ tail_sizes (codes "last") c.last
