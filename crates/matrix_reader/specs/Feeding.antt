-- What a reader of equation lists knows of the text that it was fed.
use Rattle.std.specs.Prelude.{ℕ, ◌+◌, List, length}
use Rattle.line_reader.specs.Readings.{IsFed as IsFedLines}
use Rattle.matrix_reader.specs.Rules.{list_rules}
use Rattle.matrix_reader.specs.ReaderStates.{IsRead}
use Rattle.matrix_reader.specs.declared.equation_list.MatrixReader.{MatrixReader}
use Rattle.matrix_reader.specs.declared.reader.Reader.{Reader}

-- these lines, by their words, were read
abbrev pub HasRead : {F : Type 0} → ℕ → Reader F → List (List (List ℕ)) → Type 0
HasRead p reader lines = IsRead p lines (length lines + 1) reader.model reader.last_lines.items

-- A reader was fed this text.
abbrev pub IsFed : {F : Type 0} → ℕ → MatrixReader F → List ℕ → Type 0
IsFed p reader text = IsFedLines (list_rules p) (HasRead p) reader.lines text
