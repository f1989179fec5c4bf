-- The equations and the unknowns of a flowsheet that keeps the rules are lists of names.
use Rattle.std.proofs.Common.{◌≡◌, ℕ, ◌+◌, ◌<◌, ◌≤◌, ◌^◌, Bool, true, false, ◌&&◌, IsTrue, All, List, [], ◌∷◌, ◌++◌, length, codes}
use Rattle.std.proofs.Common.{Result, Ok, Err, refl, subst, arith, length-append, leb, leb-true}
use Rattle.std.proofs.lemmas.List.{length-map}
use Rattle.refusals.specs.declared.Place.{Place}
use Rattle.refusals.specs.declared.Why.{Why}
use Rattle.refusals.specs.declared.Why.TheVariants.{TooMany, UnknownKey}
use Rattle.mixed_model.specs.Models.{empty_model}
use Rattle.mixed_model.specs.Names.{IsNameList, is_label}
use Rattle.mixed_model.proofs.NameLaws.{no_names}
use Rattle.term_model.proofs.Lists.{all-append, all-map, all_at, at_all}
use Rattle.toml.specs.Data.{Data, Members, get_member}
use Rattle.unit_equations.specs.declared.version.Version.{Version}
use Rattle.unit_equations.specs.Adding.{IsNewPart}
use Rattle.unit_equations.specs.Kinds.{flows}
use Rattle.unit_equations.specs.Parts.{UnitPart}
use Rattle.unit_equations.proofs.EquationNames.{names_of}
use Rattle.document_values.specs.Chains.{◌>>=◌, at, keeping}
use Rattle.document_values.specs.Values.{has_only}
use Rattle.document_values.proofs.Inversion.{chain-Ok, keeping-Ok}
use Rattle.flowsheet_reader.specs.Models.{components_of, document_keys, list_at_key, sheet_in, start_of, streams_of, unit_at}
use Rattle.flowsheet_reader.specs.Models.{units_in, version_of, with_units_of}
use Rattle.flowsheet_reader.specs.Reached.{AreGivenByItems}
use Rattle.flowsheet_reader.specs.Sheets.{Sheet, has_system_room, scope_of, sheet_without_units, sheet_with_unit}
use Rattle.flowsheet_reader.specs.Units.{add_unit, extended, unit_in}
use Rattle.flowsheet_reader.proofs.Reaching.{listed-few, listed-sound}
use Rattle.flowsheet_reader.proofs.Sound.{IsSound, new-part, sound-more}
use Rattle.flowsheet_reader.proofs.Starting.{flows-part, listed-of}
use Rattle.flowsheet_reader.proofs.UnitKept.{unit-kept}

-- a flowsheet whose names differ and tell their units, and are few and may stand in a model
pub record IsNamed (sheet : Sheet) : Type 0 where
  pub sound : IsSound sheet
  pub equations : IsNameList sheet.system.equations
  pub unknowns : IsNameList sheet.system.unknowns

-- without units
start-named : (p : ℕ) (version : Version) (components streams : List (List ℕ)) → AreGivenByItems components streams →
    IsNamed (sheet_without_units version components streams)
start-named p version components streams listed =
    let part = flows-part p version components streams listed empty_model (flows components streams) [] refl refl refl in
    record {
      sound = listed-sound version components streams listed;
      equations = no_names;
      unknowns = record { labels = part.unknown_labels; few = listed-few components streams listed; distinct = part.unknowns_distinct };
    }

-- labels, and more of them
labels-more : (names more : List (List ℕ)) → All (λ name. IsTrue (is_label name)) names → All (λ name. IsTrue (is_label name)) more →
    All (λ name. IsTrue (is_label name)) (names ++ more)
labels-more names more first last =
    all_at (λ name. IsTrue (is_label name)) (names ++ more)
    (all-append (λ name. IsTrue (is_label name)) names more (at_all (λ name. IsTrue (is_label name)) names first)
    (at_all (λ name. IsTrue (is_label name)) more last))

part-labels : (p : ℕ) (equations unknowns : List (List ℕ)) (part : UnitPart) → IsNewPart p equations unknowns part →
    All (λ name. IsTrue (is_label name)) (names_of part.equations)
part-labels p equations unknowns part new =
    all_at (λ name. IsTrue (is_label name)) (names_of part.equations)
    (all-map (λ equation. IsTrue (is_label equation.name)) (λ name. IsTrue (is_label name)) (λ equation. equation.name) part.equations
    (λ equation label. label) (at_all (λ equation. IsTrue (is_label equation.name)) part.equations new.equation_labels))

-- room for two numbers
both-few : (m n : ℕ) → (leb m 4096 && leb n 4096) ≡ true → (m ≤ 4096) × (n ≤ 4096)
both-few m n room = by (leb m 4096) refl room
  where
    by : (b : Bool) → leb m 4096 ≡ b → (b && leb n 4096) ≡ true → (m ≤ 4096) × (n ≤ 4096)
    by true e rest = (leb-true m 4096 e, leb-true n 4096 rest)
    by false e rest = absurd cc

-- with one unit more, for which there is room
module _ (p : ℕ) (odd : 2 < p) (sheet : Sheet) (named : IsNamed sheet) (datum : Data) (unit : List ℕ) (part : UnitPart)
    (read : unit_in p (scope_of sheet) datum ≡ Ok (unit, part)) (room : has_system_room (sheet_with_unit sheet unit part).system ≡ true) where
  few : (length (sheet.system.equations ++ names_of part.equations) ≤ 4096) × (length (sheet.system.unknowns ++ part.unknowns) ≤ 4096)
  few = both-few (length (sheet.system.equations ++ names_of part.equations)) (length (sheet.system.unknowns ++ part.unknowns)) room

  counted : length part.equations < 2 ^ 64
  counted = omega (
    arith,
    few.0,
    length-append sheet.system.equations (names_of part.equations),
    length-map part.equations (λ equation. equation.name),
  )

  unit-named : IsNamed (sheet_with_unit sheet unit part)
  unit-named =
      let added = unit-kept p sheet datum unit part odd named.sound read counted in
      let new = new-part p sheet unit part named.sound added.0 added.1 in
      record {
        sound = sound-more p sheet unit part named.sound added.0 added.1;
        equations = record {
          labels = labels-more sheet.system.equations (names_of part.equations) named.equations.labels
              (part-labels p sheet.system.equations sheet.system.unknowns part new);
          few = few.0;
          distinct = new.equations_distinct;
        };
        unknowns = record {
          labels = labels-more sheet.system.unknowns part.unknowns named.unknowns.labels new.unknown_labels;
          few = few.1;
          distinct = new.unknowns_distinct;
        };
      }

add-named : (p : ℕ) (sheet next : Sheet) (datum : Data) → 2 < p → IsNamed sheet → add_unit p sheet datum ≡ Ok next → IsNamed next
add-named p sheet next datum odd named kept =
    let (unit, first, last) = chain-Ok (unit_in p (scope_of sheet) datum) (extended sheet) next kept in
    let is = keeping-Ok (has_system_room (sheet_with_unit sheet unit.0 unit.1).system) TooMany (sheet_with_unit sheet unit.0 unit.1) next last in
    subst IsNamed is.1 (unit-named p odd sheet named datum unit.0 unit.1 first is.0)

placed-Ok : {A : Type 0} (place : Place) (given : Result A Why) (value : A) → at place given ≡ Ok value → given ≡ Ok value
placed-Ok place (Ok other) value kept = let told : other ≡ value = cc in (λ i. Ok (told i))
placed-Ok place (Err why) value kept = let f : ⊥ = cc in absurd f

units-named : (p : ℕ) (sheet final : Sheet) (items : List Data) → 2 < p → IsNamed sheet → units_in p sheet items ≡ Ok final → IsNamed final
units-named p sheet final [] odd named kept = let same : sheet ≡ final = cc in subst IsNamed same named
units-named p sheet final (datum ∷ items) odd named kept =
    let (next, first, last) = chain-Ok (unit_at p sheet datum) (λ next. units_in p next items) final kept in
    units-named p next final items odd
    (add-named p sheet next datum odd named (placed-Ok (Place.Unit (length sheet.units + 1)) (add_unit p sheet datum) next first)) last

-- a document that keeps the rules
start-of-named : (p : ℕ) (document : Members) (sheet : Sheet) → start_of document ≡ Ok sheet → IsNamed sheet
start-of-named p document sheet kept =
    let (done, one, more) = chain-Ok (at Place.Document (keeping (has_only document_keys document) UnknownKey (tt {0})))
    (λ _. at Place.Document (version_of (get_member (codes "version") document)) >>= (λ version. components_of document >>=
    (λ components. streams_of document components >>= (λ streams. Ok (sheet_without_units version components streams))))) sheet kept in
    let (version, two, others) = chain-Ok (at Place.Document (version_of (get_member (codes "version") document)))
    (λ version. components_of document >>= (λ components. streams_of document components >>=
    (λ streams. Ok (sheet_without_units version components streams)))) sheet more in
    let (components, three, rest) = chain-Ok (components_of document) (λ components. streams_of document components >>=
    (λ streams. Ok (sheet_without_units version components streams))) sheet others in
    let (streams, four, last) = chain-Ok (streams_of document components) (λ streams. Ok (sheet_without_units version components streams)) sheet rest in
    let same : sheet_without_units version components streams ≡ sheet = cc in
    subst IsNamed same (start-named p version components streams (listed-of document components streams three four))

pub sheet-named : (p : ℕ) (document : Members) (sheet : Sheet) → 2 < p → sheet_in p document ≡ Ok sheet → IsNamed sheet
sheet-named p document sheet odd kept =
    let (start, first, rest) = chain-Ok (start_of document) (with_units_of p document) sheet kept in
    let (items, second, last) = chain-Ok (at Place.Document (list_at_key (get_member (codes "unit") document))) (units_in p start) sheet rest in
    units-named p start sheet items odd (start-of-named p document start first) last
