-- No refusal of a flowsheet is at a line.
use Rattle.std.proofs.Common.{◌≡◌, ℕ, ◌+◌, List, [], ◌∷◌, ◌++◌, codes, length, Result, Ok, Err, refl, ap, ◌∙◌, inl, inr}
use Rattle.refusals.specs.declared.Place.{Place}
use Rattle.refusals.specs.declared.Place.TheVariants.{Component, Document, Stream, Unit as UnitPlace}
use Rattle.refusals.specs.declared.Refused.{Refused}
use Rattle.refusals.specs.declared.Why.{Why}
use Rattle.refusals.specs.declared.Why.TheVariants.{UnknownKey}
use Rattle.toml.specs.Data.{Data, Members, get_member}
use Rattle.unit_equations.specs.declared.version.Version.{Version}
use Rattle.document_values.specs.Chains.{◌>>=◌, at, keeping}
use Rattle.document_values.specs.Values.{each, has_only, new_name}
use Rattle.flowsheet_reader.specs.Models.{BreaksFirst, component_in, components_in, components_of, document_keys, list_at_key}
use Rattle.flowsheet_reader.specs.Models.{new_stream, sheet_in, start_of, stream_in, streams_in, streams_of, unit_at, units_in, version_of, with_units_of}
use Rattle.flowsheet_reader.specs.Sheets.{Sheet, sheet_without_units}
use Rattle.flowsheet_reader.specs.Units.{add_unit}
use Rattle.problem_heads.specs.LinesBefore.{line_number}

-- what is refused is at no line
abbrev AtNoLine : {A : Type 0} → Result A Refused → Type 0
AtNoLine result = (refused : Refused) → result ≡ Err refused → line_number refused.place ≡ 0

placed : {A : Type 0} (place : Place) (result : Result A Why) → line_number place ≡ 0 → AtNoLine (at place result)
placed place (Ok value) none = λ refused is. absurd cc
placed place (Err why) none = λ refused is.
    let same : refused ≡ record { place = place; why = why } = cc in ap (λ (r : Refused). line_number r.place) same ∙ none

chained : {A B : Type 0} (result : Result A Refused) (next : A → Result B Refused) → AtNoLine result → ((value : A) → AtNoLine (next value)) →
    AtNoLine (result >>= next)
chained (Ok value) next first rest = rest value
chained (Err refused) next first rest = λ other is. first other (let e : refused ≡ other = cc in ap Err e)

given : {A : Type 0} (value : A) → AtNoLine (Ok value)
given value = λ refused is. absurd cc

units-placed : (p : ℕ) (sheet : Sheet) (items : List Data) → AtNoLine (units_in p sheet items)
units-placed p sheet [] = given sheet
units-placed p sheet (datum ∷ items) =
    chained (unit_at p sheet datum) (λ next. units_in p next items)
    (placed (UnitPlace (length sheet.units + 1)) (add_unit p sheet datum) refl)
    (λ next. units-placed p next items)

items-placed : {A : Type 0} (one : List A → Data → Result A Refused) → ((found : List A) (datum : Data) → AtNoLine (one found datum)) →
    (found : List A) (items : List Data) → AtNoLine (each one found items)
items-placed one all found [] = given found
items-placed one all found (datum ∷ items) =
    chained (one found datum) (λ value. each one (found ++ value ∷ []) items) (all found datum)
    (λ value. items-placed one all (found ++ value ∷ []) items)

components-placed : (document : Members) → AtNoLine (components_of document)
components-placed document =
    let list = list_at_key (get_member (codes "components") document) in
    chained (at Document list) components_in (placed Document list refl)
    (items-placed component_in (λ found datum. placed (Component (length found + 1)) (new_name found datum) refl) [])

streams-placed : (document : Members) (components : List (List ℕ)) → AtNoLine (streams_of document components)
streams-placed document components =
    let list = list_at_key (get_member (codes "streams") document) in
    chained (at Document list) (streams_in components) (placed Document list refl)
    (items-placed (stream_in components) (λ found datum. placed (Stream (length found + 1)) (new_stream components found datum) refl) [])

start-placed : (document : Members) → AtNoLine (start_of document)
start-placed document =
    let keys : Result (Unit {0}) Why = keeping (has_only document_keys document) UnknownKey tt in
    let version : Result Version Why = version_of (get_member (codes "version") document) in
    let last : Version → List (List ℕ) → List (List ℕ) → Result Sheet Refused =
    λ version components streams. Ok (sheet_without_units version components streams) in
    let behind : Version → List (List ℕ) → Result Sheet Refused =
    λ version components. streams_of document components >>= (λ streams. last version components streams) in
    let later : Version → Result Sheet Refused = λ version. components_of document >>= (λ components. behind version components) in
    chained (at Document keys) (λ _. at Document version >>= (λ version. later version)) (placed Document keys refl)
    (λ _. chained (at Document version) (λ version. later version) (placed Document version refl)
    (λ version. chained (components_of document) (λ components. behind version components) (components-placed document)
    (λ components. chained (streams_of document components) (λ streams. last version components streams) (streams-placed document components)
    (λ streams. given (sheet_without_units version components streams)))))

sheet-placed : (p : ℕ) (document : Members) → AtNoLine (sheet_in p document)
sheet-placed p document =
    chained (start_of document) (with_units_of p document) (start-placed document)
    (λ sheet.
    let list = list_at_key (get_member (codes "unit") document) in
    chained (at Document list) (units_in p sheet) (placed Document list refl) (units-placed p sheet))

pub flowsheet-placed : (p : ℕ) (text : List ℕ) (refused : Refused) → BreaksFirst p text refused → line_number refused.place ≡ 0
flowsheet-placed p text refused (inl (is, none)) = ap (λ (r : Refused). line_number r.place) is
flowsheet-placed p text refused (inr (utf8, (document, parsed, broken))) = sheet-placed p document refused broken
