-- The model that a netlist gives, and the first rule that it breaks.
use Rattle.std.specs.Prelude.{◌≡◌, ◌⊎◌, ℕ, ◌+◌, ◌<◌, List, [], length, map, slice_index_or, Option, Some, None}
use Rattle.refusals.specs.declared.Place.TheVariants.{Line, Document}
use Rattle.refusals.specs.declared.Why.{Why}
use Rattle.refusals.specs.declared.Refused.{Refused as Refusal}
use Rattle.refusals.specs.declared.ReadModel.{ReadModel}
use Rattle.refusals.specs.declared.ReadModel.TheVariants.{Refused, NoMemory}
use Rattle.line_lexer.specs.Lines.{lines_of}
use Rattle.line_reader.specs.LineRules.{KeepsAll, IsFirstBroken, words_in}
use Rattle.mixed_model.specs.Models.{MixedModel}
use Rattle.term_model.specs.Systems.{System, IsModelOf as IsModelOfSystem}
use Rattle.netlist_devices.specs.Devices.{Device, device_in, devices_in}
use Rattle.netlist_devices.specs.EquationNames.{equations_of, unknowns_of}
use Rattle.netlist_reader.specs.Terms.{terms_of}
use Rattle.netlist_devices.specs.Rules.{device_rules, ground_rule, source_rule}

-- The system of some devices: their equations, their unknowns and their terms.
abbrev pub system_of : ℕ → List Device → System
system_of p devices = record {
  equations = equations_of devices;
  unknowns = unknowns_of devices;
  terms = terms_of p devices;
}

-- The model of some devices: their equations and unknowns, and at each place what the devices' terms say of it.
abbrev pub IsModelOf : ℕ → List Device → MixedModel → Type 0
IsModelOf p devices model = IsModelOfSystem p (system_of p devices) model

-- the words of a text's lines: of one that is a comment as a whole, none
abbrev pub lines_in : ℕ → List ℕ → List (List (List ℕ))
lines_in p text = map (words_in (device_rules p)) (lines_of text)

-- what the rule of sources says of line k, counted from 0, of some lines by their words
abbrev pub source_rule_at : ℕ → List (List (List ℕ)) → ℕ → Option Why
source_rule_at p lines k = source_rule (devices_in p lines) (device_in p (slice_index_or lines k []))

-- The first n lines keep the rule of sources.
abbrev pub SourcesBefore : ℕ → ℕ → List (List (List ℕ)) → Type 0
SourcesBefore p n lines = (k : ℕ) → k < n → source_rule_at p lines k ≡ None

-- A text gives a model: its lines keep the rules of a line, its devices that of the ground and that of sources, and the
-- model is that of the devices.
pub record GivesModel (p : ℕ) (text : List ℕ) (model : MixedModel) : Type 0 where
  pub kept : KeepsAll (device_rules p) text
  pub grounded : ground_rule (devices_in p (lines_in p text)) ≡ None
  pub sources : SourcesBefore p (length (lines_in p text)) (lines_in p text)
  pub given : IsModelOf p (devices_in p (lines_in p text)) model

-- Line n, counted from 0, is the first of which the source is no V device.
pub record IsFirstUnsourced (p : ℕ) (lines : List (List (List ℕ))) (n : ℕ) (why : Why) : Type 0 where
  pub within : n < length lines
  pub before : SourcesBefore p n lines
  pub here : source_rule_at p lines n ≡ Some why

-- The first broken rule of a text: of one line; or else of the ground; or else of sources. A line is numbered from 1.
abbrev pub BreaksFirst : ℕ → List ℕ → Refusal → Type 0
BreaksFirst p text refused =
    ((n : ℕ) × (why : Why) × (refused ≡ record { place = Line (n + 1); why = why })
    × IsFirstBroken (device_rules p) text n why)
    ⊎ (((why : Why) × (refused ≡ record { place = Document; why = why }) × KeepsAll (device_rules p) text
    × (ground_rule (devices_in p (lines_in p text)) ≡ Some why))
    ⊎ ((n : ℕ) × (why : Why) × (refused ≡ record { place = Line (n + 1); why = why }) × KeepsAll (device_rules p) text
    × (ground_rule (devices_in p (lines_in p text)) ≡ None) × IsFirstUnsourced p (lines_in p text) n why))

-- Why a text is not read: its first broken rule and the place of it, or memory ran out.
abbrev pub IsRefusal : ℕ → List ℕ → ReadModel → Type 0
IsRefusal p text (Refused refused) = BreaksFirst p text refused
IsRefusal p text NoMemory = Unit {0}
