-- The model that a flowsheet's document gives, and the first rule that it breaks.
use Rattle.std.specs.Prelude.{◌≡◌, ◌⊎◌, ℕ, ◌+◌, List, [], ◌∷◌, ◌++◌, codes, if◌then◌else◌, length, nat_eq, nat_le, Option, Some, None}
use Rattle.std.specs.Prelude.{Result, Ok, Err, IsUtf8, pos}
use Rattle.limits.specs.Limits.{equation_limit}
use Rattle.refusals.specs.declared.Place.TheVariants.{Component, Document, Stream, Unit as UnitPlace}
use Rattle.refusals.specs.declared.ReadModel.{ReadModel}
use Rattle.refusals.specs.declared.ReadModel.TheVariants.{Refused, NoMemory}
use Rattle.refusals.specs.declared.Refused.{Refused as Refusal}
use Rattle.refusals.specs.declared.Why.{Why}
use Rattle.refusals.specs.declared.Why.TheVariants.{BadVersion, NotToml, TooMany, UnknownKey}
use Rattle.mixed_model.specs.Models.{MixedModel}
use Rattle.term_model.specs.Systems.{IsModelOf}
use Rattle.toml.specs.Data.{Data, integer, Members, get_member}
use Rattle.toml.specs.Parse.{parse_document}
use Rattle.unit_equations.specs.declared.version.Version.{Version}
use Rattle.unit_equations.specs.declared.version.Version.TheVariants.{One, Two}
use Rattle.document_values.specs.Chains.{◌>>=◌, at, keeping}
use Rattle.unit_equations.specs.Kinds.{flows}
use Rattle.flowsheet_reader.specs.Sheets.{Sheet, sheet_without_units}
use Rattle.flowsheet_reader.specs.Units.{add_unit}
use Rattle.document_values.specs.Values.{each, has_only, list_of, new_name}

-- the version that a value at the key `version` tells: 1 where there is none
abbrev pub version_of : Option Data → Result Version Why
version_of None = Ok One
version_of (Some (integer (pos number))) =
    if nat_eq number 1 then Ok One else (if nat_eq number 2 then Ok Two else Err BadVersion)
version_of (Some _) = Err BadVersion

-- the list at a key: an empty one where there is none
abbrev pub list_at_key : Option Data → Result (List Data) Why
list_at_key None = Ok []
list_at_key (Some datum) = list_of datum

-- the next component
abbrev pub component_in : List (List ℕ) → Data → Result (List ℕ) Refusal
component_in found datum = at (Component (length found + 1)) (new_name found datum)

abbrev pub components_in : List Data → Result (List (List ℕ)) Refusal
components_in items = each component_in [] items

-- a new stream, for whose flows there is room
abbrev pub new_stream : List (List ℕ) → List (List ℕ) → Data → Result (List ℕ) Why
new_stream components found datum =
    new_name found datum
    >>= (λ name. keeping (nat_le (length (flows components (found ++ name ∷ []))) equation_limit) TooMany name)

-- the next stream
abbrev pub stream_in : List (List ℕ) → List (List ℕ) → Data → Result (List ℕ) Refusal
stream_in components found datum = at (Stream (length found + 1)) (new_stream components found datum)

abbrev pub streams_in : List (List ℕ) → List Data → Result (List (List ℕ)) Refusal
streams_in components items = each (stream_in components) [] items

-- the flowsheet with the next unit
abbrev pub unit_at : ℕ → Sheet → Data → Result Sheet Refusal
unit_at p sheet datum = at (UnitPlace (length sheet.units + 1)) (add_unit p sheet datum)

-- the flowsheet with some units more
abbrev pub units_in : ℕ → Sheet → List Data → Result Sheet Refusal
units_in p sheet [] = Ok sheet
units_in p sheet (datum ∷ items) = unit_at p sheet datum >>= (λ next. units_in p next items)

-- the keys of a document
abbrev pub document_keys : List (List ℕ)
document_keys = codes "version" ∷ codes "components" ∷ codes "streams" ∷ codes "unit" ∷ []

-- the components and the streams that a document lists
abbrev pub components_of : Members → Result (List (List ℕ)) Refusal
components_of document = at Document (list_at_key (get_member (codes "components") document)) >>= components_in

abbrev pub streams_of : Members → List (List ℕ) → Result (List (List ℕ)) Refusal
streams_of document components =
    at Document (list_at_key (get_member (codes "streams") document)) >>= streams_in components

-- the flowsheet of a document, without its units
abbrev pub start_of : Members → Result Sheet Refusal
start_of document =
    at Document (keeping (has_only document_keys document) UnknownKey (tt {0}))
    >>= (λ _. at Document (version_of (get_member (codes "version") document))
    >>= (λ version. components_of document
    >>= (λ components. streams_of document components
    >>= (λ streams. Ok (sheet_without_units version components streams)))))

-- and with them
abbrev pub with_units_of : ℕ → Members → Sheet → Result Sheet Refusal
with_units_of p document sheet =
    at Document (list_at_key (get_member (codes "unit") document)) >>= units_in p sheet

-- The flowsheet of a document, or the first rule that the document breaks.
abbrev pub sheet_in : ℕ → Members → Result Sheet Refusal
sheet_in p document = start_of document >>= with_units_of p document

-- A text gives a model: it is a document in UTF-8, of a flowsheet whose system of equations the model is.
pub record GivesModel (p : ℕ) (text : List ℕ) (model : MixedModel) : Type 0 where
  pub utf8 : IsUtf8 text
  pub document : Members
  pub parsed : parse_document text ≡ Some document
  pub sheet : Sheet
  pub kept : sheet_in p document ≡ Ok sheet
  pub given : IsModelOf p sheet.system model

-- The first broken rule of a text: that it is a document; or else one of flowsheets.
abbrev pub BreaksFirst : ℕ → List ℕ → Refusal → Type 0
BreaksFirst p text refused =
    ((refused ≡ record { place = Document; why = NotToml }) × (IsUtf8 text → parse_document text ≡ None))
    ⊎ (IsUtf8 text × ((document : Members) × (parse_document text ≡ Some document)
    × (sheet_in p document ≡ Err refused)))

-- Why a text is not read: its first broken rule and the place of it, or memory ran out.
abbrev pub IsRefusal : ℕ → List ℕ → ReadModel → Type 0
IsRefusal p text (Refused refused) = BreaksFirst p text refused
IsRefusal p text NoMemory = Unit {0}
