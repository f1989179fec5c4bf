-- Worked examples of netlists, and the rows of their equations. All are read modulo 65,521.
use Rattle.std.specs.Prelude.{ℕ, Bool, true, false, List, [], ◌∷◌, ◌++◌, ◌&&◌, map, codes, Some, None}
use Rattle.std.specs.List.{list_all}
use Rattle.refusals.specs.declared.Place.{Place}
use Rattle.refusals.specs.declared.Why.{Why}
use Rattle.refusals.specs.declared.ReadModel.{ReadModel}
use Rattle.refusals.specs.declared.ReadModel.TheVariants.{Refused}
use Rattle.mixed_model.specs.Entries.{RowEntry}
use Rattle.mixed_model.specs.Names.{has_name}
use Rattle.mixed_model.specs.Models.{MixedModel}
use Rattle.term_model.specs.Terms.{said_of, symbol_said}
use Rattle.netlist_devices.specs.declared.kind.DeviceKind.TheVariants.{Transformer}
use Rattle.line_reader.specs.LineRules.{words_in}
use Rattle.netlist_devices.specs.Rules.{device_rules}
use Rattle.netlist_devices.specs.Devices.{Device, devices_in}
use Rattle.netlist_devices.specs.EquationNames.{equations_of, unknowns_of}
use Rattle.netlist_reader.specs.Terms.{terms_of}

-- the devices of some lines
abbrev pub devices_of : List (List ℕ) → List Device
devices_of lines = devices_in 65521 (map (words_in (device_rules 65521)) lines)

-- what stands in an equation of some devices at each unknown, in order: the constants
abbrev pub constants_in : List Device → List ℕ → List ℕ
constants_in devices equation = map (said_of 65521 (terms_of 65521 devices) equation) (unknowns_of devices)

-- and whether symbols do
abbrev pub symbols_in : List Device → List ℕ → List Bool
symbols_in devices equation = map (symbol_said (terms_of 65521 devices) equation) (unknowns_of devices)

-- a voltage that is controlled by another
abbrev pub controlled_source : List Device
controlled_source = devices_of (codes "V1 a 0" ∷ codes "E1 b 0 a 0" ∷ [])

-- an opamp whose inputs are apart, and one whose inputs are at one node
abbrev pub opamps : List Device
opamps = devices_of (codes ".opamp U1 0 m out" ∷ codes ".OpAmp U2 m m 0" ∷ [])

-- a transformer with this number
abbrev pub transformer : ℕ → List Device
transformer n = record {
  kind = Transformer;
  name = codes "T1";
  nodes = codes "a" ∷ codes "0" ∷ codes "b" ∷ codes "a" ∷ [];
  source = [];
  number = n;
} ∷ []

-- a resistor with both ends at one node, and beside it one that is not
abbrev pub loop : List Device
loop = devices_of (codes "R1 a a" ∷ codes "r2 a 0 1k" ∷ [])

-- a refusal
abbrev pub refusal : Place → Why → ReadModel
refusal place why = Refused (record { place = place; why = why })

-- two lines
abbrev pub two_lines : List ℕ → List ℕ → List ℕ
two_lines first second = first ++ 10 ∷ second

-- a constant at a column, and a symbol
abbrev pub constant_entry : ℕ → ℕ → RowEntry
constant_entry j n = record { column = j; constant = Some n; symbol = false }

abbrev pub symbol_entry : ℕ → RowEntry
symbol_entry j = record { column = j; constant = None; symbol = true }

-- the text of the controlled source, and its model
abbrev pub controlled_text : List ℕ
controlled_text = two_lines (codes "V1 a 0") (codes "E1 b 0 a 0")

abbrev pub controlled_model : MixedModel
controlled_model = record {
  equations =
      codes "kcl.a" ∷ codes "kcl.b" ∷ codes "kvl.V1" ∷ codes "law.V1" ∷ codes "kvl.E1" ∷ codes "ctl.E1"
      ∷ codes "law.E1" ∷ [];
  unknowns =
      codes "u.a" ∷ codes "u.b" ∷ codes "v.V1" ∷ codes "i.V1" ∷ codes "v.E1" ∷ codes "i.E1" ∷ codes "w.E1" ∷ [];
  rows =
      (constant_entry 3 1 ∷ []) ∷ (constant_entry 5 1 ∷ []) ∷ (constant_entry 0 65520 ∷ constant_entry 2 1 ∷ [])
      ∷ (constant_entry 2 1 ∷ []) ∷ (constant_entry 1 65520 ∷ constant_entry 4 1 ∷ [])
      ∷ (constant_entry 0 65520 ∷ constant_entry 6 1 ∷ []) ∷ (symbol_entry 4 ∷ symbol_entry 6 ∷ []) ∷ [];
}

-- whether each term stands at an equation and an unknown of the devices, so that none is lost
abbrev pub loses_no_term : List Device → Bool
loses_no_term devices =
    list_all (λ term. has_name (equations_of devices) term.equation && has_name (unknowns_of devices) term.unknown)
    (terms_of 65521 devices)

-- a device of each kind
abbrev pub all_kinds : List Device
all_kinds =
    devices_of (codes "r1 a b" ∷ codes "V1 b 0" ∷ codes "I1 a 0" ∷ codes "E1 a b b c" ∷ codes "G1 a c b 0"
    ∷ codes "F1 c 0 V1" ∷ codes "H1 a b V1" ∷ codes ".opamp U1 a b c"
    ∷ codes ".transformer T1 a b c 0 2" ∷ codes ".Gyrator Y1 a b c 0 2" ∷ [])
