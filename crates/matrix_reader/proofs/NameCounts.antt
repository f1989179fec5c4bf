-- Each equation and each unknown of an equation list has bytes of its own.
use Rattle.std.proofs.Common.{◌≡◌, ℕ, suc, ◌≤◌, Bool, true, false, List, [], ◌∷◌, length}
use Rattle.std.proofs.Common.{map, drop, codes, ap, ◌∙◌, arith, length-drop, if◌then◌else◌}
use Rattle.std.specs.List.{flat_map}
use Rattle.std.specs.Str.{bytes_eq}
use Rattle.std.specs.Str.Lines.{strip_carriage_return}
use Rattle.std.proofs.lemmas.List.{length-append, length-map}
use Rattle.line_lexer.specs.Lines.{cut_at_feeds, lines_of}
use Rattle.line_lexer.specs.Tokens.{words_of}
use Rattle.mixed_model.specs.Models.{MixedModel}
use Rattle.term_model.proofs.TextCounts.{bytes_of, cut-count, seen-few, text-bytes, words-few}
use Rattle.matrix_reader.specs.EquationLists.{Equation, equation_of, equations_in, names_in, unknowns_in}
use Rattle.matrix_reader.specs.Items.{unknown_of}
use Rattle.matrix_reader.specs.Models.{GivesModel}

-- the names of a line
names-few : (words : List (List ℕ)) → length (names_in words) ≤ length words
names-few [] = omega arith
names-few (word ∷ words) = go (bytes_eq word (codes "eq")) (bytes_eq word (codes "unknown"))
  where
    go : (b d : Bool) → length (if b then map unknown_of (drop 1 words) else (if d then words else [])) ≤ suc (length words)
    go true d = omega (arith, length-map (drop 1 words) unknown_of, length-drop 1 words)
    go false true = omega arith
    go false false = omega arith

all-names-few : (lines : List (List ℕ)) → length (flat_map names_in (map words_of lines)) ≤ bytes_of lines
all-names-few [] = omega arith
all-names-few (line ∷ lines) = omega (
  arith,
  length-append (names_in (words_of line))
      (flat_map names_in (map words_of lines)),
  names-few (words_of line),
  words-few line,
  all-names-few lines,
)

-- the equations
equation-few : (words : List (List ℕ)) → length (equation_of words) ≤ 1
equation-few [] = omega arith
equation-few (word ∷ []) = omega arith
equation-few (word ∷ name ∷ items) = go (bytes_eq word (codes "eq"))
  where
    go : (b : Bool) → length {A = Equation} (if b then record { name = name; items = items } ∷ [] else []) ≤ 1
    go true = omega arith
    go false = omega arith

equations-few : (lines : List (List (List ℕ))) → length (equations_in lines) ≤ length lines
equations-few [] = omega arith
equations-few (line ∷ lines) = omega (arith, length-append (equation_of line) (equations_in lines), equation-few line, equations-few lines)

pub list-names-few : (p : ℕ) (text : List ℕ) (model : MixedModel) → GivesModel p text model →
    (length model.equations ≤ length text) × (length model.unknowns ≤ length text)
list-names-few p text model gives =
    let lines : List (List (List ℕ)) = map words_of (lines_of text) in
    let equations : length model.equations ≡ length (equations_in lines) = ap length (gives.given).equations_are
    ∙ length-map (equations_in lines) (λ (equation : Equation). equation.name) in
    let unknowns : length model.unknowns ≡ length (unknowns_in lines) = ap length (gives.given).unknowns_are in
    let count : length lines ≤ length text = omega (
      arith,
      length-map (lines_of text) words_of,
      length-map
          (cut_at_feeds text) strip_carriage_return,
      cut-count text,
    ) in (
      omega (arith, equations, equations-few lines, count),
      omega
          (arith, unknowns, seen-few [] (flat_map names_in lines), all-names-few (lines_of text), text-bytes text),
    )
