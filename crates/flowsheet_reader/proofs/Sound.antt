-- A flowsheet whose names differ and tell their units stays so by a unit more.
use Rattle.std.proofs.Common.{◌≡◌, ℕ, All, IsTrue, Bool, true, false, List, [], ◌∷◌, ◌++◌, map, codes, refl, sym, ap, subst, ◌∙◌, append_assoc}
use Rattle.std.specs.List.{AllByRecursion, flat_map}
use Rattle.std.specs.Str.{bytes_eq}
use Rattle.std.proofs.lemmas.List.{append-nil}
use Rattle.std.proofs.lemmas.Slice.Eq.{bytes_eq-Decides}
use Rattle.mixed_model.specs.Names.{has_name, is_label}
use Rattle.term_model.proofs.Lists.{Differ, all-append, all-flat_map, all-map, all_at, at_all, differ-append, differ-distinct}
use Rattle.term_model.proofs.NamesAmong.{has-left, has-right}
use Rattle.unit_equations.specs.declared.version.Version.{Version}
use Rattle.unit_equations.specs.Adding.{ArePlaced, AreSummands, IsNewPart}
use Rattle.term_model.specs.Putting.{IsPlaced}
use Rattle.unit_equations.specs.Kinds.{flow, flows}
use Rattle.unit_equations.specs.Parts.{UnitEquation, UnitPart, equation_terms}
use Rattle.flowsheet_reader.specs.Sheets.{Sheet, sheet_without_units, sheet_with_unit}
use Rattle.unit_equations.proofs.Dots.{unit_of, word_of}
use Rattle.unit_equations.proofs.EquationNames.{names_of}
use Rattle.unit_equations.proofs.Keyed.{all-both, all-own, all-weaker, has-more, has-self}
use Rattle.unit_equations.proofs.Spelled.{IsShort, IsSpelled, spelled-label}
use Rattle.unit_equations.proofs.SummandLaws.{Stand, flow-word, flows-differ, stand-summands}
use Rattle.unit_equations.proofs.UnitParts.{IsUnitPart}

-- what a flowsheet's names tell
pub record IsSound (sheet : Sheet) : Type 0 where
  pub good : AllByRecursion IsShort sheet.components
  pub apart : Differ sheet.components
  pub short : AllByRecursion IsShort sheet.streams
  pub streams_differ : Differ sheet.streams
  pub own : List (List ℕ)
  pub unknowns_are : sheet.system.unknowns ≡ flows sheet.components sheet.streams ++ own
  pub own_units : AllByRecursion (λ name. has_name sheet.units (unit_of name) ≡ true) own
  pub unknowns_differ : Differ sheet.system.unknowns
  pub equation_units : AllByRecursion (λ name. has_name sheet.units (unit_of name) ≡ true) sheet.system.equations
  pub equations_differ : Differ sheet.system.equations
  pub placed : ArePlaced sheet.system

-- a name is none of others that it is not
none-same : (name : List ℕ) (names : List (List ℕ)) → AllByRecursion (λ other. name ≡ other → ⊥) names → has_name names name ≡ false
none-same name [] all = refl
none-same name (other ∷ names) all = by (bytes_eq name other) refl (none-same name names all.1)
  where
    by : (b : Bool) → bytes_eq name other ≡ b → has_name names name ≡ false → has_name (other ∷ names) name ≡ false
    by true e rest = absurd (all.0 ((bytes_eq-Decides name other).0 e))
    by false e rest = rw e rest

-- units that were named and one that was not
other-unit : (units : List (List ℕ)) (unit name other : List ℕ) → has_name units unit ≡ false →
    has_name units (unit_of name) ≡ true → unit_of other ≡ unit → name ≡ other → ⊥
other-unit units unit name other new old is same =
    let both : true ≡ false = sym old ∙ ap (λ n. has_name units (unit_of n)) same ∙ ap (has_name units) is ∙ new in cc

other-word : (name other : List ℕ) → word_of name ≡ codes "f" → bytes_eq (word_of other) (codes "f") ≡ false → name ≡ other → ⊥
other-word name other is none same =
    let both : true ≡ false = sym ((bytes_eq-Decides (word_of other) (codes "f")).1 (sym (ap word_of same) ∙ is)) ∙ none in cc

module _ (p : ℕ) (sheet : Sheet) (unit : List ℕ) (part : UnitPart) (sound : IsSound sheet) (new : has_name sheet.units unit ≡ false)
    (is : IsUnitPart p (flows sheet.components sheet.streams ++ (sound.own ++ part.unknowns)) unit part) where
  all-unknowns : sheet.system.unknowns ++ part.unknowns ≡ flows sheet.components sheet.streams ++ (sound.own ++ part.unknowns)
  all-unknowns = ap (λ names. names ++ part.unknowns) sound.unknowns_are ∙ append_assoc (flows sheet.components sheet.streams) sound.own part.unknowns

  named : AllByRecursion (λ name. unit_of name ≡ unit) (names_of part.equations)
  named = all-map (λ equation. unit_of equation.name ≡ unit) (λ name. unit_of name ≡ unit)
      (λ equation. equation.name) part.equations (λ equation told. told) is.names.owned

  all-equations-differ : Differ (sheet.system.equations ++ names_of part.equations)
  all-equations-differ =
      differ-append sheet.system.equations (names_of part.equations) sound.equations_differ is.names.differ
      (all-weaker (λ name. has_name sheet.units (unit_of name) ≡ true) (λ name. has_name (names_of part.equations) name ≡ false) sheet.system.equations
      (λ name old. none-same name (names_of part.equations) (all-weaker (λ other. unit_of other ≡ unit)
      (λ other. name ≡ other → ⊥) (names_of part.equations)
      (λ other told. other-unit sheet.units unit name other new old told) named)) sound.equation_units)

  flows-new : AllByRecursion (λ name. has_name part.unknowns name ≡ false) (flows sheet.components sheet.streams)
  flows-new =
      all-flat_map (λ stream. has_name sheet.streams stream ≡ true) (λ name. has_name part.unknowns name ≡ false)
      (λ stream. map (flow stream) sheet.components) sheet.streams
      (λ stream there. all-map (λ component. has_name sheet.components component ≡ true)
      (λ name. has_name part.unknowns name ≡ false) (flow stream) sheet.components
      (λ component among. none-same (flow stream component) part.unknowns
      (all-weaker (λ other. bytes_eq (word_of other) (codes "f") ≡ false) (λ other. flow stream component ≡ other →
      ⊥) part.unknowns (λ other none. other-word (flow stream component) other
      (flow-word stream component) none) is.words)) (all-own sheet.components)) (all-own sheet.streams)

  own-new : AllByRecursion (λ name. has_name part.unknowns name ≡ false) sound.own
  own-new =
      all-weaker (λ name. has_name sheet.units (unit_of name) ≡ true) (λ name. has_name part.unknowns name ≡ false) sound.own
      (λ name old. none-same name part.unknowns (all-weaker (λ other. unit_of other ≡ unit) (λ other. name ≡ other →
      ⊥) part.unknowns (λ other told. other-unit sheet.units unit name other new old told) is.units)) sound.own_units

  all-unknowns-differ : Differ (sheet.system.unknowns ++ part.unknowns)
  all-unknowns-differ =
      differ-append sheet.system.unknowns part.unknowns sound.unknowns_differ is.differ
      (subst (AllByRecursion (λ name. has_name part.unknowns name ≡ false)) (sym sound.unknowns_are)
      (all-append (λ name. has_name part.unknowns name ≡ false) (flows sheet.components sheet.streams) sound.own flows-new own-new))

  -- so the unit's part may be added
  pub new-part : IsNewPart p sheet.system.equations sheet.system.unknowns part
  new-part = record {
    equation_labels = all_at (λ equation. IsTrue (is_label equation.name)) part.equations
        (all-weaker (λ equation. IsSpelled equation.name 96)
        (λ equation. IsTrue (is_label equation.name)) part.equations
        (λ equation spelled. spelled-label equation.name spelled) is.names.spelled);
    unknown_labels = all_at (λ name. IsTrue (is_label name)) part.unknowns (all-weaker (λ name. IsSpelled name 96)
        (λ name. IsTrue (is_label name)) part.unknowns (λ name spelled. spelled-label name spelled) is.spelled);
    equations_distinct = differ-distinct (sheet.system.equations ++ names_of part.equations) all-equations-differ;
    unknowns_distinct = differ-distinct (sheet.system.unknowns ++ part.unknowns) all-unknowns-differ;
    summands = subst (λ names. All (λ equation. AreSummands p names equation.summands) part.equations) (sym all-unknowns)
        (all_at (λ equation. AreSummands p (flows sheet.components sheet.streams ++ (sound.own ++ part.unknowns)) equation.summands) part.equations
        (all-weaker (λ equation. Stand p (flows sheet.components sheet.streams ++
        (sound.own ++ part.unknowns)) equation.summands)
        (λ equation. AreSummands p (flows sheet.components sheet.streams ++
        (sound.own ++ part.unknowns)) equation.summands) part.equations
        (λ equation stand. stand-summands p (flows sheet.components sheet.streams ++ (sound.own ++ part.unknowns)) equation.summands stand) is.stand));
  }

  -- each new term stands at an equation and an unknown that are there
  old-placed : AllByRecursion (IsPlaced (sheet.system.equations ++ names_of part.equations) (sheet.system.unknowns ++ part.unknowns)) sheet.system.terms
  old-placed =
      all-weaker (IsPlaced sheet.system.equations sheet.system.unknowns)
      (IsPlaced (sheet.system.equations ++ names_of part.equations)
      (sheet.system.unknowns ++ part.unknowns)) sheet.system.terms
      (λ term at. record {
        equation = has-left sheet.system.equations
            (names_of part.equations) term.equation at.equation;
        unknown =
            has-left sheet.system.unknowns part.unknowns term.unknown at.unknown;
      })
      (at_all (IsPlaced sheet.system.equations sheet.system.unknowns) sheet.system.terms sound.placed)

  terms-placed : (equation : UnitEquation) → has_name (names_of part.equations) equation.name ≡ true →
      Stand p (flows sheet.components sheet.streams ++ (sound.own ++ part.unknowns)) equation.summands →
      AllByRecursion (IsPlaced (sheet.system.equations ++ names_of part.equations)
      (sheet.system.unknowns ++ part.unknowns)) (equation_terms equation)
  terms-placed equation there stand =
      all-map (λ summand. has_name (flows sheet.components sheet.streams ++
      (sound.own ++ part.unknowns)) summand.unknown ≡ true)
      (IsPlaced (sheet.system.equations ++ names_of part.equations) (sheet.system.unknowns ++ part.unknowns))
      (λ summand. record { equation = equation.name; unknown = summand.unknown; constant = summand.constant; symbol = summand.symbol }) equation.summands
      (λ summand at. record {
        equation = has-right sheet.system.equations
            (names_of part.equations) equation.name there;
        unknown =
            ap (λ names. has_name names summand.unknown) all-unknowns ∙ at;
      }) stand.there

  own-named : (equations : List UnitEquation) → AllByRecursion (λ equation. has_name (names_of equations) equation.name ≡ true) equations
  own-named [] = tt
  own-named (equation ∷ equations) = (
    has-self (names_of equations) equation.name equation.name refl,
    all-weaker
        (λ other. has_name (names_of equations) other.name ≡ true)
        (λ other. has_name (names_of (equation ∷ equations)) other.name ≡ true) equations
        (λ other there. has-more (names_of equations) equation.name other.name there) (own-named equations),
  )

  pub sound-more : IsSound (sheet_with_unit sheet unit part)
  sound-more = record {
    good = sound.good;
    apart = sound.apart;
    short = sound.short;
    streams_differ = sound.streams_differ;
    own = sound.own ++ part.unknowns;
    unknowns_are = all-unknowns;
    own_units = all-append (λ name. has_name (sheet.units ++ unit ∷ []) (unit_of name) ≡ true) sound.own part.unknowns
        (all-weaker (λ name. has_name sheet.units (unit_of name) ≡ true)
        (λ name. has_name (sheet.units ++ unit ∷ []) (unit_of name) ≡ true) sound.own
        (λ name old. has-left sheet.units (unit ∷ []) (unit_of name) old) sound.own_units)
        (all-weaker (λ name. unit_of name ≡ unit) (λ name. has_name (sheet.units ++ unit ∷ [])
        (unit_of name) ≡ true) part.unknowns (λ name told. has-right sheet.units (unit ∷ []) (unit_of name)
        (has-self [] unit (unit_of name) told)) is.units);
    unknowns_differ = all-unknowns-differ;
    equation_units = all-append (λ name. has_name (sheet.units ++ unit ∷ []) (unit_of name) ≡ true) sheet.system.equations (names_of part.equations)
        (all-weaker (λ name. has_name sheet.units (unit_of name) ≡ true)
        (λ name. has_name (sheet.units ++ unit ∷ []) (unit_of name) ≡ true) sheet.system.equations
        (λ name old. has-left sheet.units (unit ∷ []) (unit_of name) old) sound.equation_units)
        (all-weaker (λ name. unit_of name ≡ unit) (λ name. has_name (sheet.units ++ unit ∷ [])
        (unit_of name) ≡ true) (names_of part.equations) (λ name told. has-right sheet.units (unit ∷ [])
        (unit_of name) (has-self [] unit (unit_of name) told)) named);
    equations_differ = all-equations-differ;
    placed = all_at (IsPlaced (sheet.system.equations ++ names_of part.equations)
        (sheet.system.unknowns ++ part.unknowns)) (sheet.system.terms ++ flat_map equation_terms part.equations)
        (all-append (IsPlaced (sheet.system.equations ++ names_of part.equations)
        (sheet.system.unknowns ++ part.unknowns)) sheet.system.terms (flat_map equation_terms part.equations) old-placed
        (all-flat_map (λ equation. (has_name (names_of part.equations) equation.name ≡ true)
        × Stand p (flows sheet.components sheet.streams ++ (sound.own ++ part.unknowns)) equation.summands)
        (IsPlaced (sheet.system.equations ++ names_of part.equations)
        (sheet.system.unknowns ++ part.unknowns)) equation_terms part.equations
        (λ equation both. terms-placed equation both.0 both.1)
        (all-both (λ equation. has_name (names_of part.equations) equation.name ≡ true)
        (λ equation. Stand p (flows sheet.components sheet.streams ++
        (sound.own ++ part.unknowns)) equation.summands) part.equations (own-named part.equations) is.stand)));
  }

-- a flowsheet without units
pub sound-start : (version : Version) (components streams : List (List ℕ)) → AllByRecursion IsShort components →
    Differ components → AllByRecursion IsShort streams → Differ streams →
    IsSound (sheet_without_units version components streams)
sound-start version components streams good apart short differ = record {
  good = good;
  apart = apart;
  short = short;
  streams_differ = differ;
  own = [];
  unknowns_are = sym (append-nil (flows components streams));
  own_units = tt;
  unknowns_differ = flows-differ components streams good apart short differ;
  equation_units = tt;
  equations_differ = tt;
  placed = all_at (IsPlaced [] (flows components streams)) [] tt;
}
