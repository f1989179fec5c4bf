-- Flowsheets that the items of a document make: they are sound, and grow by a unit.
use Rattle.std.proofs.Common.{◌≡◌, ℕ, ◌+◌, ◌<◌, ◌≤◌, ◌^◌, Bool, true, false, ◌&&◌, List, [], ◌∷◌, ◌++◌, length}
use Rattle.std.proofs.Common.{Result, Ok, Err, refl, sym, ap, subst, ◌∙◌, arith, length-append, leb, leb-true, ◌⊎◌}
use Rattle.std.proofs.Common.{inl, inr}
use Rattle.std.specs.List.{AllByRecursion}
use Rattle.std.proofs.lemmas.Bool.{le-leb, lt-leb}
use Rattle.std.proofs.lemmas.List.{length-map}
use Rattle.refusals.specs.declared.Place.{Place}
use Rattle.refusals.specs.declared.Place.TheVariants.{Unit as UnitPlace}
use Rattle.refusals.specs.declared.Refused.{Refused as Refusal}
use Rattle.refusals.specs.declared.Why.{Why}
use Rattle.refusals.specs.declared.Why.TheVariants.{TooMany}
use Rattle.mixed_model.specs.Names.{has_name}
use Rattle.term_model.specs.Systems.{IsModelOf}
use Rattle.term_model.proofs.Lists.{all-append, Differ, differ-last}
use Rattle.toml.specs.Data.{Data}
use Rattle.unit_equations.specs.declared.version.Version.{Version}
use Rattle.unit_equations.specs.Adding.{IsNewPart}
use Rattle.document_values.specs.Chains.{◌>>=◌, at, keeping}
use Rattle.flowsheet_reader.specs.Keeping.{KeptSheet, scope_of_kept}
use Rattle.unit_equations.specs.Kinds.{flows}
use Rattle.flowsheet_reader.specs.Models.{component_in, new_stream, stream_in, unit_at, units_in}
use Rattle.unit_equations.specs.Parts.{UnitPart, system_of, together}
use Rattle.flowsheet_reader.specs.Reached.{AreGivenByItems, IsReached, Keeps}
use Rattle.flowsheet_reader.specs.Sheets.{Sheet, has_system_room, scope_of, sheet_without_units, sheet_with_unit}
use Rattle.flowsheet_reader.specs.Units.{add_unit, extended, unit_in}
use Rattle.document_values.specs.Values.{each, new_name}
use Rattle.unit_equations.proofs.EquationNames.{names_of}
use Rattle.document_values.proofs.Inversion.{chain-Ok, keeping-Ok, new_name-Ok, then}
use Rattle.flowsheet_reader.proofs.Sound.{IsSound, new-part, sound-more, sound-start}
use Rattle.unit_equations.proofs.Spelled.{IsShort, short-name}
use Rattle.flowsheet_reader.proofs.UnitKept.{unit-kept}
use Rattle.unit_equations.proofs.UnitParts.{IsUnitPart}

at-Ok : {A : Type 0} (place : Place) (given : Result A Why) (value : A) → at place given ≡ Ok value → given ≡ Ok value
at-Ok place (Ok other) value kept = let told : other ≡ value = cc in ap Ok told
at-Ok place (Err why) value kept = let f : ⊥ = cc in absurd f

-- names that are read one by one, each new beside those before
abbrev GivesNew : (List (List ℕ) → Data → Result (List ℕ) Refusal) → Type 0
GivesNew one = (found : List (List ℕ)) (datum : Data) (name : List ℕ) → one found datum ≡ Ok name → new_name found datum ≡ Ok name

named : (one : List (List ℕ) → Data → Result (List ℕ) Refusal) → GivesNew one →
    (found : List (List ℕ)) (items : List Data) (names : List (List ℕ)) → each one found items ≡ Ok names →
    AllByRecursion IsShort found → Differ found → AllByRecursion IsShort names × Differ names
named one new found [] names kept short differ =
    let same : found ≡ names = cc in
    (subst (AllByRecursion IsShort) same short, subst Differ same differ)
named one new found (datum ∷ items) names kept short differ =
    let (name, first, last) = chain-Ok (one found datum) (λ name. each one (found ++ name ∷ []) items) names kept in
    let is = new_name-Ok found datum name (new found datum name first) in
    named one new (found ++ name ∷ []) items names last (all-append IsShort found (name ∷ []) short
    (short-name name is.0, tt)) (differ-last found name differ is.1)

component-new : GivesNew component_in
component-new found datum name kept = at-Ok (Place.Component (length found + 1)) (new_name found datum) name kept

new_stream-new : (components found : List (List ℕ)) (datum : Data) (name : List ℕ) →
    new_stream components found datum ≡ Ok name → (new_name found datum ≡ Ok name)
    × (length (flows components (found ++ name ∷ [])) ≤ 4096)
new_stream-new components found datum name kept =
    let (given, first, last) = chain-Ok (new_name found datum)
    (λ name. keeping (leb (length (flows components (found ++ name ∷ []))) 4096) TooMany name) name kept in
    let is = keeping-Ok (leb (length (flows components (found ++ given ∷ []))) 4096) TooMany given name last in (
      first ∙ ap Ok is.1,
      leb-true (length (flows components (found ++ name ∷ []))) 4096
          (sym (ap (λ n. leb (length (flows components (found ++ n ∷ []))) 4096) is.1) ∙ is.0),
    )

stream-new : (components : List (List ℕ)) → GivesNew (stream_in components)
stream-new components found datum name kept = (new_stream-new components found datum name
    (at-Ok (Place.Stream (length found + 1)) (new_stream components found datum) name kept)).0

-- for the flows of streams that were read there is room
streams-few : (components found : List (List ℕ)) (items : List Data) (names : List (List ℕ)) →
    each (stream_in components) found items ≡ Ok names → length (flows components found) ≤ 4096 →
    length (flows components names) ≤ 4096
streams-few components found [] names kept few = let same : found ≡ names = cc in subst (λ names. length (flows components names) ≤ 4096) same few
streams-few components found (datum ∷ items) names kept few =
    let (name, first, last) = chain-Ok (stream_in components found datum) (λ name. each (stream_in components) (found ++ name ∷ []) items) names kept in
    streams-few components (found ++ name ∷ []) items names last (new_stream-new components found datum name
    (at-Ok (Place.Stream (length found + 1)) (new_stream components found datum) name first)).1

pub listed-few : (components streams : List (List ℕ)) → AreGivenByItems components streams → length (flows components streams) ≤ 4096
listed-few components streams listed = streams-few components [] listed.stream_items streams listed.streams_are (omega arith)

pub listed-sound : (version : Version) (components streams : List (List ℕ)) → AreGivenByItems components streams →
    IsSound (sheet_without_units version components streams)
listed-sound version components streams listed =
    let first = named component_in component-new [] listed.component_items components listed.components_are tt tt in
    let second = named (stream_in components) (stream-new components) [] listed.stream_items streams listed.streams_are tt tt in
    sound-start version components streams first.0 first.1 second.0 second.1

-- room for a part tells how many equations it has
room-few : (sheet : Sheet) (unit : List ℕ) (part : UnitPart) → has_system_room (sheet_with_unit sheet unit part).system ≡ true → length part.equations < 2 ^ 64
room-few sheet unit part room = by (leb (length (sheet.system.equations ++ names_of part.equations)) 4096) refl room
  where
    by : (b : Bool) → leb (length (sheet.system.equations ++ names_of part.equations)) 4096 ≡ b →
        (b && leb (length (sheet.system.unknowns ++ part.unknowns)) 4096) ≡ true → length part.equations < 2 ^ 64
    by false e none = let f : ⊥ = cc in absurd f
    by true e fits =
        let few = leb-true (length (sheet.system.equations ++ names_of part.equations)) 4096 e in
        omega (arith, few, length-append sheet.system.equations (names_of part.equations), length-map part.equations (λ equation. equation.name))

-- a unit more
add-sound : (p : ℕ) (sheet next : Sheet) (datum : Data) → 2 < p → IsSound sheet → add_unit p sheet datum ≡ Ok next → IsSound next
add-sound p sheet next datum odd sound kept =
    let (unit, first, last) = chain-Ok (unit_in p (scope_of sheet) datum) (extended sheet) next kept in
    let is = keeping-Ok (has_system_room (sheet_with_unit sheet unit.0 unit.1).system) TooMany (sheet_with_unit sheet unit.0 unit.1) next last in
    let added = unit-kept p sheet datum unit.0 unit.1 odd sound first (room-few sheet unit.0 unit.1 is.0) in
    subst IsSound is.1 (sound-more p sheet unit.0 unit.1 sound added.0 added.1)

units-sound : (p : ℕ) (sheet final : Sheet) (items : List Data) → 2 < p → IsSound sheet → units_in p sheet items ≡ Ok final → IsSound final
units-sound p sheet final [] odd sound kept = let same : sheet ≡ final = cc in subst IsSound same sound
units-sound p sheet final (datum ∷ items) odd sound kept =
    let (next, first, last) = chain-Ok (unit_at p sheet datum) (λ next. units_in p next items) final kept in
    units-sound p next final items odd (add-sound p sheet next datum odd sound
    (at-Ok (UnitPlace (length sheet.units + 1)) (add_unit p sheet datum) next first)) last

pub reached-sound : (p : ℕ) (sheet : Sheet) → 2 < p → IsReached p sheet → IsSound sheet
reached-sound p sheet odd reached =
    units-sound p (sheet_without_units sheet.version sheet.components sheet.streams) sheet reached.unit_items odd
    (listed-sound sheet.version sheet.components sheet.streams reached.listed) reached.units

-- one unit after others
units-append : (p : ℕ) (sheet final next : Sheet) (items : List Data) (datum : Data) →
    units_in p sheet items ≡ Ok final → unit_at p final datum ≡ Ok next →
    units_in p sheet (items ++ datum ∷ []) ≡ Ok next
units-append p sheet final next [] datum kept more =
    let same : sheet ≡ final = cc in
    ap (λ given. given >>= (λ next. units_in p next [])) (ap (λ sheet. unit_at p sheet datum) same ∙ more)
units-append p sheet final next (other ∷ items) datum kept more =
    let (middle, first, last) = chain-Ok (unit_at p sheet other) (λ next. units_in p next items) final kept in
    then (unit_at p sheet other) (λ next. units_in p next (items ++ datum ∷ [])) middle first ∙ units-append p middle final next items datum last more

-- names and places stay as the units grow
module _ (p : ℕ) (odd : 2 < p) (kept : KeptSheet) (sheet : Sheet) (keeps : Keeps p kept sheet) (datum : Data) (unit : List ℕ) (part : UnitPart)
    (read : unit_in p (scope_of_kept kept) datum ≡ Ok (unit, part)) (few : length part.equations < 2 ^ 64) where
  same-scope : scope_of_kept kept ≡ scope_of sheet
  same-scope = λ i. record {
    version = keeps.version i;
    components = keeps.components i;
    streams = keeps.streams i;
    units = keeps.units i;
    unknowns = keeps.model.unknowns_are i;
  }

  told : unit_in p (scope_of sheet) datum ≡ Ok (unit, part)
  told = ap (λ scope. unit_in p scope datum) (sym same-scope) ∙ read

  sound : IsSound sheet
  sound = reached-sound p sheet odd keeps.reached

  is-part : (has_name sheet.units unit ≡ false) × IsUnitPart p (flows sheet.components sheet.streams ++ (sound.own ++ part.unknowns)) unit part
  is-part = unit-kept p sheet datum unit part odd sound told few

  pub unit-new : has_name kept.units unit ≡ false
  unit-new = ap (λ names. has_name names unit) keeps.units ∙ is-part.0

  pub part-new : IsNewPart p kept.model.equations kept.model.unknowns part
  part-new =
      subst (λ names. IsNewPart p names kept.model.unknowns part) (sym keeps.model.equations_are)
      (subst (λ names. IsNewPart p sheet.system.equations names part) (sym keeps.model.unknowns_are) (new-part p sheet unit part sound is-part.0 is-part.1))

  -- there is no room for it
  pub unit-full : (4096 < length (kept.model.equations ++ names_of part.equations)) ⊎
      (4096 < length (kept.model.unknowns ++ part.unknowns)) → add_unit p sheet datum ≡ Err TooMany
  unit-full over =
      then (unit_in p (scope_of sheet) datum) (extended sheet) (unit, part) told
      ∙ ap (λ b. keeping b TooMany (sheet_with_unit sheet unit part)) (no-room over)
    where
      no-room : (4096 < length (kept.model.equations ++ names_of part.equations)) ⊎
          (4096 < length (kept.model.unknowns ++ part.unknowns)) → has_system_room (sheet_with_unit sheet unit part).system ≡ false
      no-room (inl many) = ap (λ b. b && leb (length (sheet.system.unknowns ++ part.unknowns)) 4096)
          (lt-leb (length (sheet.system.equations ++ names_of part.equations)) 4096
          (subst (λ names. 4096 < length (names ++ names_of part.equations)) keeps.model.equations_are many))
      no-room (inr many) = (λ i. leb (length (sheet.system.equations ++ names_of part.equations)) 4096 && lt-leb
          (length (sheet.system.unknowns ++ part.unknowns)) 4096
          (subst (λ names. 4096 < length (names ++ part.unknowns)) keeps.model.unknowns_are many) i)
          ∙ and-false (leb (length (sheet.system.equations ++ names_of part.equations)) 4096)
        where
          and-false : (b : Bool) → (b && false) ≡ false
          and-false true = refl
          and-false false = refl

  -- or it is added
  module _ (new : KeptSheet) (model : IsModelOf p (together sheet.system (system_of part)) new.model)
      (version : new.version ≡ kept.version) (components : new.components ≡ kept.components)
      (streams : new.streams ≡ kept.streams) (units : new.units ≡ kept.units ++ unit ∷ []) where
    has-room : has_system_room (sheet_with_unit sheet unit part).system ≡ true
    has-room = (λ i.
        le-leb (length (sheet.system.equations ++ names_of part.equations)) 4096
        (subst (λ names. length names ≤ 4096) model.equations_are model.is_model.equations.few) i
        && le-leb (length (sheet.system.unknowns ++ part.unknowns)) 4096
        (subst (λ names. length names ≤ 4096) model.unknowns_are model.is_model.unknowns.few) i)

    pub unit-added : add_unit p sheet datum ≡ Ok (sheet_with_unit sheet unit part)
    unit-added =
        then (unit_in p (scope_of sheet) datum) (extended sheet) (unit, part) told
        ∙ ap (λ b. keeping b TooMany (sheet_with_unit sheet unit part)) has-room

    pub keeps-more : Keeps p new (sheet_with_unit sheet unit part)
    keeps-more = record {
      version = version ∙ keeps.version;
      components = components ∙ keeps.components;
      streams = streams ∙ keeps.streams;
      units = units ∙ ap (λ names. names ++ unit ∷ []) keeps.units;
      model = model;
      reached = record {
        listed = keeps.reached.listed;
        unit_items = keeps.reached.unit_items ++ datum ∷ [];
        units = units-append p (sheet_without_units sheet.version sheet.components sheet.streams) sheet
            (sheet_with_unit sheet unit part) keeps.reached.unit_items datum keeps.reached.units
            (ap (at (UnitPlace (length sheet.units + 1))) unit-added);
      };
    }
