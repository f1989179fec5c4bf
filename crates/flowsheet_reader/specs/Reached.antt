-- Flowsheets that the items of a document make.
use Rattle.std.specs.Prelude.{◌≡◌, ℕ, List, Result, Ok, Err}
use Rattle.term_model.specs.Systems.{IsModelOf}
use Rattle.toml.specs.Data.{Data}
use Rattle.flowsheet_reader.specs.Keeping.{KeptSheet}
use Rattle.flowsheet_reader.specs.Models.{components_in, streams_in, units_in}
use Rattle.flowsheet_reader.specs.Sheets.{Sheet, sheet_without_units}

-- Some items give the components, and some the streams.
pub record AreGivenByItems (components streams : List (List ℕ)) : Type 0 where
  pub component_items : List Data
  pub stream_items : List Data
  pub components_are : components_in component_items ≡ Ok components
  pub streams_are : streams_in components stream_items ≡ Ok streams

-- Some items give its names, and some its units.
pub record IsReached (p : ℕ) (sheet : Sheet) : Type 0 where
  pub listed : AreGivenByItems sheet.components sheet.streams
  pub unit_items : List Data
  pub units : units_in p (sheet_without_units sheet.version sheet.components sheet.streams) unit_items ≡ Ok sheet

-- What is kept is what was read of a flowsheet.
pub record Keeps (p : ℕ) (kept : KeptSheet) (sheet : Sheet) : Type 0 where
  pub version : kept.version ≡ sheet.version
  pub components : kept.components ≡ sheet.components
  pub streams : kept.streams ≡ sheet.streams
  pub units : kept.units ≡ sheet.units
  pub model : IsModelOf p sheet.system kept.model
  pub reached : IsReached p sheet

-- a flowsheet is kept
abbrev pub IsKept : ℕ → KeptSheet → Type 0
IsKept p kept = (sheet : Sheet) × Keeps p kept sheet

-- What adding to a flowsheet leaves, by what it is to give.
abbrev pub Grows : {E : Type 0} → ℕ → KeptSheet → KeptSheet → (Sheet → Result Sheet E) → Type 0
Grows p old new wanted =
    (sheet : Sheet) → Keeps p old sheet → (next : Sheet) × (wanted sheet ≡ Ok next) × Keeps p new next

-- Why nothing is added: what it is to give is this refusal.
abbrev pub IsRefusedBy : {E : Type 0} → ℕ → KeptSheet → (Sheet → Result Sheet E) → E → Type 0
IsRefusedBy p old wanted why = (sheet : Sheet) → Keeps p old sheet → wanted sheet ≡ Err why
