-- What a flowsheet keeps as it is read.
use Rattle.std.specs.Prelude.{List, ℕ}
use Rattle.mixed_model.specs.Models.{MixedModel}
use Rattle.unit_equations.specs.declared.version.Version.{Version}
use Rattle.flowsheet_reader.specs.Sheets.{Scope}

-- the names of its components, of its streams and of its units, and the model of its equations
pub record KeptSheet : Type 0 where
  pub version : Version
  pub components : List (List ℕ)
  pub streams : List (List ℕ)
  pub units : List (List ℕ)
  pub model : MixedModel

-- what the next unit may name
abbrev pub scope_of_kept : KeptSheet → Scope
scope_of_kept kept = record {
  version = kept.version;
  components = kept.components;
  streams = kept.streams;
  units = kept.units;
  unknowns = kept.model.unknowns;
}
