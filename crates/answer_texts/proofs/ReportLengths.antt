-- The length of the text of a report.
use Rattle.std.proofs.Common.{ℕ, ◌+◌, ◌-◌, ◌*◌, ◌≤◌, List, [], ◌∷◌, ◌++◌, length, codes, arith}
use Rattle.std.proofs.lemmas.List.{length-append}
use Rattle.text_writer.specs.Numbers.{spaced}
use Rattle.text_lengths.proofs.Lengths.{marked-short}
use Rattle.mixed_model.specs.Models.{MixedModel, IsModel}
use Rattle.mixed_model.specs.Names.{IsNameList, name_at}
use Rattle.solve_plan.specs.declared.told.Report.{Report}
use Rattle.answer_texts.specs.ReportTexts.{count_line, name_line, name_lines, sizes_line, surplus_text, undetermined_text, report_text}
use Rattle.answer_texts.specs.Rooms.{report_room}
use Rattle.answer_texts.proofs.LayerLengths.{name-short}

count-line-short : (word : List ℕ) (number : ℕ) → length word ≤ 8 → number ≤ 8192 → length (count_line word number) ≤ 15
count-line-short word number short few =
    omega (arith, short, marked-short 32 number (omega (arith, few)), length-append word (spaced number), length-append (word ++ spaced number) (codes "\n"))

name-line-short : (word name : List ℕ) → length word ≤ 12 → length name ≤ 96 → length (name_line word name) ≤ 110
name-line-short word name short low = omega (
  arith,
  short,
  low,
  length-append word (codes " "),
  length-append (word ++ codes " ") name,
  length-append (word ++ codes " " ++ name) (codes "\n"),
)

name-lines-short : (word : List ℕ) (names : List (List ℕ)) → IsNameList names → length word ≤ 12 → (numbers : List ℕ) →
    length (name_lines word names numbers) ≤ 110 * length numbers
name-lines-short word names are short [] = omega arith
name-lines-short word names are short (number ∷ numbers) = omega (
  arith,
  name-line-short word (name_at names number) short (name-short names are number),
  name-lines-short word names are short numbers,
  length-append (name_line word (name_at names number)) (name_lines word names numbers),
)

sizes-short : (report : Report) → report.equations ≤ 8192 → report.unknowns ≤ 8192 → report.rank ≤ 8192 → length (sizes_line report) ≤ 42
sizes-short report equations unknowns rank =
    let one : List ℕ = codes "equations" ++ spaced report.equations in
    let two : List ℕ = one ++ codes " unknowns" in
    let three : List ℕ = two ++ spaced report.unknowns in
    let four : List ℕ = three ++ codes " rank" in
    let five : List ℕ = four ++ spaced report.rank in
    omega (
      arith,
      marked-short 32 report.equations (omega (arith, equations)),
      marked-short 32 report.unknowns (omega (arith, unknowns)),
      marked-short 32 report.rank (omega (arith, rank)),
      length-append (codes "equations") (spaced report.equations),
      length-append one (codes " unknowns"),
      length-append two (spaced report.unknowns),
      length-append three (codes " rank"),
      length-append four (spaced report.rank),
      length-append five (codes "\n"),
    )

-- the names of a model are short, and a report on it lists few
module _ (p : ℕ) (model : MixedModel) (is : IsModel p model) (report : Report) (k : ℕ) (few : k ≤ 4096)
    (equations : report.equations ≤ k) (unknowns : report.unknowns ≤ k) (rank : report.rank ≤ k)
    (surplus : length report.surplus ≤ k) (undetermined : length report.undetermined ≤ k) where
  surplus-short : length (surplus_text model report) ≤ 15 + 110 * k
  surplus-short =
      let count : List ℕ = count_line (codes "too many") (report.equations - report.rank) in
      omega (
        arith,
        surplus,
        count-line-short (codes "too many") (report.equations - report.rank) (omega arith) (omega (arith, equations, few)),
        name-lines-short (codes "surplus") model.equations is.equations (omega arith) report.surplus,
        length-append count (name_lines (codes "surplus") model.equations report.surplus),
      )

  undetermined-short : length (undetermined_text model report) ≤ 15 + 110 * k
  undetermined-short =
      let count : List ℕ = count_line (codes "too few") (report.unknowns - report.rank) in
      omega (
        arith,
        undetermined,
        count-line-short (codes "too few") (report.unknowns - report.rank) (omega arith) (omega (arith, unknowns, few)),
        name-lines-short (codes "undetermined") model.unknowns is.unknowns (omega arith) report.undetermined,
        length-append count (name_lines (codes "undetermined") model.unknowns report.undetermined),
      )

  pub report-text-short : length (report_text model report) ≤ report_room k
  report-text-short =
      let one : List ℕ = sizes_line report in
      omega (
        arith,
        sizes-short report (omega (arith, equations, few)) (omega (arith, unknowns, few)) (omega (arith, rank, few)),
        surplus-short,
        undetermined-short,
        length-append one (surplus_text model report),
        length-append (one ++ surplus_text model report) (undetermined_text model report),
      )
