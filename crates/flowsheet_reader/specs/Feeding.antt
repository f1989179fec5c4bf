-- What a reader of flowsheets was fed.
use Rattle.std.specs.Prelude.{◌≡◌, ℕ, List}
use Rattle.flowsheet_reader.specs.declared.flowsheet.FlowsheetReader.{FlowsheetReader}

-- A reader was fed this text.
abbrev pub IsFed : FlowsheetReader → List ℕ → Type 0
IsFed reader text = reader.text.items ≡ text
