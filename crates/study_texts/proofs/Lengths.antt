-- The lengths of the texts that tell how a model is solved, and of conflict sets.
use Rattle.std.proofs.Common.{ℕ, ◌+◌, ◌*◌, ◌^◌, ◌<◌, ◌≤◌, List, [], ◌∷◌, ◌++◌, length, codes, slice_index_or, arith, All, mul_comm, mul-le-mul_right, suc-mul}
use Rattle.std.proofs.lemmas.List.{length-append}
use Rattle.std.proofs.lemmas.List.Elements.{All-head, All-tail}
use Rattle.text_writer.specs.Numbers.{spaced}
use Rattle.text_lengths.proofs.Lengths.{decimal-short, marked-short}
use Rattle.text_lengths.proofs.TextLengths.{at_most}
use Rattle.mixed_model.specs.Layers.{Layers}
use Rattle.mixed_model.specs.Models.{IsModel, MixedModel}
use Rattle.mixed_model.specs.Names.{IsNameList, name_at}
use Rattle.mixed_model.specs.declared.origin.Origin.TheVariants.{Unknown}
use Rattle.answer_texts.specs.LayerTexts.{column_name}
use Rattle.answer_texts.specs.PlanTexts.{column_item, column_items, named_columns_line}
use Rattle.answer_texts.specs.ReportTexts.{count_line}
use Rattle.answer_texts.proofs.LayerLengths.{column-name-short, name-short}
use Rattle.symbol_places.specs.declared.places.SymbolPlace.{SymbolPlace}
use Rattle.study_answers.specs.declared.conflicts.Conflict.{Conflict}
use Rattle.study_answers.specs.declared.solving.Solving.{Solving}
use Rattle.study_answers.specs.declared.solving.Solving.TheVariants.{Open, Singular, Solution}
use Rattle.study_answers.specs.declared.values.ValueAt.{ValueAt}
use Rattle.study_answers.specs.declared.values.Values.{Values}
use Rattle.study_texts.specs.ConflictTexts.{conflict_line, conflict_lines, conflicts_text, name_item, name_items}
use Rattle.study_texts.specs.Rooms.{conflict_room, solution_room, values_room}
use Rattle.study_texts.specs.SolutionTexts.{open_text, singular_text, solution_text, solving_text, value_line, value_lines}
use Rattle.study_texts.specs.ValueTexts.{symbol_line, symbol_lines, values_text}

-- ---- conflict sets
items-short : (names : List (List ℕ)) → IsNameList names → (equations : List ℕ) → length (name_items names equations) ≤ 97 * length equations
items-short names are [] = omega arith
items-short names are (equation ∷ equations) = omega (
  arith,
  name-short names are equation,
  items-short names are equations,
  length-append (codes " ") (name_at names equation),
  length-append (name_item names equation) (name_items names equations),
)

line-short : (names : List (List ℕ)) → IsNameList names → (k : ℕ) (conflict : Conflict) → length conflict.set ≤ k →
    length (conflict_line names conflict) ≤ 107 + 97 * k
line-short names are k conflict few =
    let one : List ℕ = codes "conflict " ++ name_at names conflict.equation in
    let two : List ℕ = one ++ codes ":" in
    let three : List ℕ = two ++ name_items names conflict.set in
    omega (
      arith,
      few,
      name-short names are conflict.equation,
      items-short names are conflict.set,
      length-append (codes "conflict ") (name_at names conflict.equation),
      length-append one (codes ":"),
      length-append two (name_items names conflict.set),
      length-append three (codes "\n"),
    )

lines-short : (names : List (List ℕ)) → IsNameList names → (k : ℕ) (conflicts : List Conflict) →
    All (λ conflict. length conflict.set ≤ k) conflicts → length (conflict_lines names conflicts) ≤ length conflicts * (107 + 97 * k)
lines-short names are k [] few = omega arith
lines-short names are k (conflict ∷ conflicts) few =
    let here : length conflict.set ≤ k = All-head (λ (c : Conflict). length c.set ≤ k) conflict conflicts few in
    let rest = lines-short names are k conflicts (All-tail (λ (c : Conflict). length c.set ≤ k) conflict conflicts few) in
    rw (suc-mul (length conflicts) (107 + 97 * k)) (omega (
      arith,
      line-short names are k conflict here,
      rest,
      length-append (conflict_line names conflict) (conflict_lines names conflicts),
    ))

count-short : (count : ℕ) → count < 10000 → length (count_line (codes "conflicts") count) ≤ 15
count-short count few = omega (
  arith,
  marked-short 32 count few,
  length-append (codes "conflicts") (spaced count),
  length-append (codes "conflicts" ++ spaced count) (codes "\n"),
)

-- at most k sets, each of at most k equations
pub conflicts-text-short : (p : ℕ) (model : MixedModel) → IsModel p model → (k : ℕ) → k < 10000 → (conflicts : List Conflict) →
    length conflicts ≤ k → All (λ conflict. length conflict.set ≤ k) conflicts → length (conflicts_text model conflicts) ≤ conflict_room k
conflicts-text-short p model is k small conflicts few sets = omega (
  arith,
  count-short (length conflicts) (omega (arith, few, small)),
  lines-short model.equations is.equations k conflicts sets,
  at_most (length conflicts) k 107 97 few,
  length-append (count_line (codes "conflicts") (length conflicts)) (conflict_lines model.equations conflicts),
)

-- ---- values of symbols
symbol-line-short : (p digits : ℕ) → 0 < digits → (model : MixedModel) → IsModel p model → (place : SymbolPlace) (number : ℕ) →
    number < 10 ^ digits → length (symbol_line model place number) ≤ 201 + digits
symbol-line-short p digits some model is place number small =
    let one : List ℕ = codes "value " ++ name_at model.equations place.equation in
    let two : List ℕ = one ++ codes " " in
    let three : List ℕ = two ++ name_at model.unknowns place.unknown in
    let four : List ℕ = three ++ spaced number in
    omega (
      arith,
      name-short model.equations is.equations place.equation,
      name-short model.unknowns is.unknowns place.unknown,
      decimal-short digits number some small,
      length-append (codes "value ") (name_at model.equations place.equation),
      length-append one (codes " "),
      length-append two (name_at model.unknowns place.unknown),
      length-append three (spaced number),
      length-append four (codes "\n"),
    )

module _ {T : Type 0} (number : T → ℕ) (p digits : ℕ) (some : 0 < digits) (model : MixedModel) (is : IsModel p model) where
  symbols-short : (values : List (ValueAt T)) → All (λ at. number at.value < 10 ^ digits) values →
      length (symbol_lines number model values) ≤ length values * (201 + digits)
  symbols-short [] small = omega arith
  symbols-short (at ∷ values) small =
      let here : number at.value < 10 ^ digits = All-head (λ (a : ValueAt T). number a.value < 10 ^ digits) at values small in
      let rest = symbols-short values (All-tail (λ (a : ValueAt T). number a.value < 10 ^ digits) at values small) in
      rw (suc-mul (length values) (201 + digits)) (omega (
        arith,
        symbol-line-short p digits some model is at.place (number at.value) here,
        rest,
        length-append (symbol_line model at.place (number at.value)) (symbol_lines number model values),
      ))

  -- the rank has four digits, and there are at most k k symbols
  pub values-text-short : (k : ℕ) (told : Values T) → told.rank < 10000 → length told.values ≤ k * k →
      All (λ at. number at.value < 10 ^ digits) told.values → length (values_text number model told) ≤ values_room digits k
  values-text-short k told low few small = omega (
    arith,
    marked-short 32 told.rank low,
    symbols-short told.values small,
    mul-le-mul_right (201 + digits) few,
    mul_comm (k * k) (201 + digits),
    length-append (codes "rank") (spaced told.rank),
    length-append (codes "rank" ++ spaced told.rank) (codes "\n"),
    length-append (count_line (codes "rank") told.rank) (symbol_lines number model told.values),
  )

-- ---- how a model is solved
value-line-short : (digits : ℕ) → 0 < digits → (names : List (List ℕ)) → IsNameList names → (j number : ℕ) → number < 10 ^ digits →
    length (value_line (name_at names j) number) ≤ 106 + digits
value-line-short digits some names are j number small =
    let one : List ℕ = codes "unknown " ++ name_at names j in
    let two : List ℕ = one ++ spaced number in
    omega (
      arith,
      name-short names are j,
      decimal-short digits number some small,
      length-append (codes "unknown ") (name_at names j),
      length-append one (spaced number),
      length-append two (codes "\n"),
    )

module _ {T : Type 0} (number : T → ℕ) (digits : ℕ) (some : 0 < digits) (names : List (List ℕ)) (are : IsNameList names) where
  values-short : (j : ℕ) (values : List T) → All (λ value. number value < 10 ^ digits) values →
      length (value_lines number names j values) ≤ length values * (106 + digits)
  values-short j [] small = omega arith
  values-short j (value ∷ values) small =
      let here : number value < 10 ^ digits = All-head (λ v. number v < 10 ^ digits) value values small in
      let rest = values-short (j + 1) values (All-tail (λ v. number v < 10 ^ digits) value values small) in
      rw (suc-mul (length values) (106 + digits)) (omega (
        arith,
        value-line-short digits some names are j (number value) here,
        rest,
        length-append (value_line (name_at names j) (number value)) (value_lines number names (j + 1) values),
      ))

module _ {T : Type 0} (number : T → ℕ) (p digits : ℕ) (some : 0 < digits) (model : MixedModel) (is : IsModel p model) (layers : Layers) (k n : ℕ) where
  solution-text-short : (values : List T) → length values ≤ k → All (λ value. number value < 10 ^ digits) values →
      length (solution_text number model values) ≤ solution_room digits k n
  solution-text-short values few small = omega (
    arith,
    values-short number digits some model.unknowns is.unknowns 0 values small,
    mul-le-mul_right (106 + digits) few,
    mul_comm k (106 + digits),
    length-append (codes "solution\n") (value_lines number model.unknowns 0 values),
  )

  column-short : (column : ℕ) → length (column_item model layers column) ≤ 98
  column-short column =
      let name : List ℕ = column_name model (slice_index_or layers.column_origins column (Unknown 0)) in
      omega (arith, column-name-short p model is (slice_index_or layers.column_origins column (Unknown 0)), length-append (codes " ") name)

  columns-short : (columns : List ℕ) → length (column_items model layers columns) ≤ 98 * length columns
  columns-short [] = omega arith
  columns-short (column ∷ columns) =
      omega (arith, column-short column, columns-short columns, length-append (column_item model layers column) (column_items model layers columns))

  singular-text-short : (block : ℕ) (columns : List ℕ) → block < 10000 → length columns ≤ n →
      length (singular_text model layers block columns) ≤ solution_room digits k n
  singular-text-short block columns low few =
      let one : List ℕ = count_line (codes "singular block") block in
      let two : List ℕ = codes "for" ++ column_items model layers columns in
      omega (
        arith,
        few,
        marked-short 32 block low,
        columns-short columns,
        length-append (codes "singular block") (spaced block),
        length-append (codes "singular block" ++ spaced block) (codes "\n"),
        length-append (codes "for") (column_items model layers columns),
        length-append two (codes "\n"),
        length-append one (named_columns_line (codes "for") model layers columns),
      )

  open-text-short : (rank : ℕ) → rank < 10000 → length (open_text model rank) ≤ solution_room digits k n
  open-text-short rank low =
      let one : List ℕ = codes "equations" ++ spaced (length model.equations) in
      let two : List ℕ = one ++ codes " unknowns" in
      let three : List ℕ = two ++ spaced (length model.unknowns) in
      let four : List ℕ = three ++ codes " rank" in
      let five : List ℕ = four ++ spaced rank in
      omega (
        arith,
        marked-short 32 (length model.equations) (omega (arith, is.equations.few)),
        marked-short 32 (length model.unknowns) (omega (arith, is.unknowns.few)),
        marked-short 32 rank low,
        length-append (codes "equations") (spaced (length model.equations)),
        length-append one (codes " unknowns"),
        length-append two (spaced (length model.unknowns)),
        length-append three (codes " rank"),
        length-append four (spaced rank),
        length-append five (codes "\n"),
      )

  -- the rank, or the block, has four digits; at most n columns are named; at most k numbers are told, each with so many
  abbrev pub IsShort : Solving T → Type 0
  IsShort (Open rank) = rank < 10000
  IsShort (Singular block columns) = (block < 10000) × (length columns ≤ n)
  IsShort (Solution values) = (length values ≤ k) × All (λ value. number value < 10 ^ digits) values

  pub solving-text-short : (solving : Solving T) → IsShort solving → length (solving_text number model layers solving) ≤ solution_room digits k n
  solving-text-short (Open rank) low = open-text-short rank low
  solving-text-short (Singular block columns) (low, few) = singular-text-short block columns low few
  solving-text-short (Solution values) (few, small) = solution-text-short values few small
