-- The text of values for the symbols of a model, by its lines. Equations and unknowns are counted from 0.
use Rattle.std.specs.Prelude.{ℕ, ◌<◌, List, [], ◌∷◌, ◌++◌, codes, length}
use Rattle.text_writer.specs.Numbers.{spaced}
use Rattle.mixed_model.specs.Models.{MixedModel}
use Rattle.mixed_model.specs.Names.{name_at}
use Rattle.answer_texts.specs.ReportTexts.{count_line}
use Rattle.symbol_places.specs.declared.places.SymbolPlace.{SymbolPlace}
use Rattle.study_answers.specs.declared.values.ValueAt.{ValueAt}
use Rattle.study_answers.specs.declared.values.Values.{Values}

-- the line of a value: the equation and the unknown of its symbol, and its number
abbrev pub symbol_line : MixedModel → SymbolPlace → ℕ → List ℕ
symbol_line model place number = codes "value " ++ name_at model.equations place.equation ++ codes " "
    ++ name_at model.unknowns place.unknown ++ spaced number ++ codes "\n"

-- the lines of some values, each seen by its number
abbrev pub symbol_lines : {T : Type 0} → (T → ℕ) → MixedModel → List (ValueAt T) → List ℕ
symbol_lines number model [] = []
symbol_lines number model (at ∷ values) =
    symbol_line model at.place (number at.value) ++ symbol_lines number model values

-- the rank of a model, and the values of its symbols
abbrev pub values_text : {T : Type 0} → (T → ℕ) → MixedModel → Values T → List ℕ
values_text number model told = count_line (codes "rank") told.rank ++ symbol_lines number model told.values

-- the equation and the unknown of a symbol are there
abbrev pub IsPlaceIn : MixedModel → SymbolPlace → Type 0
IsPlaceIn model place = (place.equation < length model.equations) × (place.unknown < length model.unknowns)
