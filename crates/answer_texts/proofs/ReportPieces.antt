-- What is left of the lines of names once one of them is put.
use Rattle.std.proofs.Common.{◌≡◌, ℕ, ◌+◌, ◌<◌, List, ◌++◌, length, get_or, drop, ap}
use Rattle.text_writer.proofs.Putting.{drop_next}
use Rattle.answer_texts.specs.ReportTexts.{name_line, name_lines}
use Rattle.mixed_model.specs.Names.{name_at}

pub names_left : (word : List ℕ) (names : List (List ℕ)) (numbers : List ℕ) (i d : ℕ) → i < length numbers →
    name_lines word names (drop i numbers) ≡ name_line word (name_at names (get_or numbers i d)) ++ name_lines word names (drop (i + 1) numbers)
names_left word names numbers i d within = ap (name_lines word names) (drop_next numbers i d within)
