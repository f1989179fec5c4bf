-- A flowsheet, as far as it was read.
use Rattle.std.specs.Prelude.{ℕ, Bool, ◌&&◌, List, [], ◌∷◌, ◌++◌, length, nat_le}
use Rattle.limits.specs.Limits.{equation_limit}
use Rattle.term_model.specs.Systems.{System}
use Rattle.unit_equations.specs.declared.version.Version.{Version}
use Rattle.unit_equations.specs.Kinds.{flows}
use Rattle.unit_equations.specs.Parts.{UnitPart, system_of, together}

-- The names of its components, of its streams and of its units, and the system of equations that the units make over
-- the flows and their own unknowns.
pub record Sheet : Type 0 where
  pub version : Version
  pub components : List (List ℕ)
  pub streams : List (List ℕ)
  pub units : List (List ℕ)
  pub system : System

-- What the parts of a unit may name: streams, components and unknowns that are there; and the names of the units
-- before.
pub record Scope : Type 0 where
  pub version : Version
  pub components : List (List ℕ)
  pub streams : List (List ℕ)
  pub units : List (List ℕ)
  pub unknowns : List (List ℕ)

abbrev pub scope_of : Sheet → Scope
scope_of sheet = record {
  version = sheet.version;
  components = sheet.components;
  streams = sheet.streams;
  units = sheet.units;
  unknowns = sheet.system.unknowns;
}

-- a flowsheet without units: its unknowns are the flows, stream by stream
abbrev pub sheet_without_units : Version → List (List ℕ) → List (List ℕ) → Sheet
sheet_without_units version components streams = record {
  version = version;
  components = components;
  streams = streams;
  units = [];
  system = record { equations = []; unknowns = flows components streams; terms = [] };
}

-- one unit more
abbrev pub sheet_with_unit : Sheet → List ℕ → UnitPart → Sheet
sheet_with_unit sheet unit part =
    record sheet { units = sheet.units ++ unit ∷ []; system = together sheet.system (system_of part) }

-- there are at most 4,096 equations and 4,096 unknowns
abbrev pub has_system_room : System → Bool
has_system_room system = nat_le (length system.equations) equation_limit && nat_le (length system.unknowns)
    equation_limit
