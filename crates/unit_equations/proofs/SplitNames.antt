-- The names of the equations of a unit with several outlets: a balance and its splits, for each component.
use Rattle.std.proofs.Common.{◌≡◌, ℕ, ◌<◌, ◌≤◌, ◌^◌, true, false, List, [], ◌∷◌, ◌++◌, length, map, refl, sym, ap, subst, ◌∙◌, arith}
use Rattle.std.specs.Fmt.{decimal}
use Rattle.std.specs.List.{AllByRecursion, after_first, flat_map}
use Rattle.std.specs.Str.{bytes_eq}
use Rattle.std.proofs.lemmas.List.{map-append}
use Rattle.std.proofs.lemmas.List.Concat.{flat_map-cons}
use Rattle.std.proofs.lemmas.Simd.{map-map}
use Rattle.line_lexer.specs.Numbers.{is_point}
use Rattle.mixed_model.specs.Names.{has_name}
use Rattle.term_model.proofs.Lists.{Differ, all-flat_map, all-map}
use Rattle.unit_equations.specs.declared.version.Version.{Version}
use Rattle.unit_equations.specs.declared.version.Version.TheVariants.{One, Two}
use Rattle.unit_equations.specs.Kinds.{outlet_word, own_for}
use Rattle.unit_equations.specs.Parts.{UnitEquation}
use Rattle.unit_equations.proofs.Dots.{behind_unit, component_of, unit_of, word_of}
use Rattle.unit_equations.proofs.EquationNames.{AreNames, AreNumbers, IsWord, names_of, numbered-component}
use Rattle.unit_equations.proofs.EquationNames.{numbered-number, numbered-spelled, numbered-unit, numbered-word}
use Rattle.unit_equations.proofs.EquationNames.{own_for-component, own_for-spelled, own_for-unit, own_for-word}
use Rattle.unit_equations.proofs.Keyed.{GivesKeyed, all-weaker, has-self, keyed-differ, map-differ, none-keyed}
use Rattle.unit_equations.proofs.Spelled.{IsShort, IsSpelled, spelled-more}

-- version 1 has one split at most
abbrev pub Fits : Version → ℕ → Type 0
Fits One count = count ≤ 1
Fits Two count = Unit {0}

-- what the names of a component's equations tell
pub record AreOf (unit component : List ℕ) (equations : List UnitEquation) : Type 0 where
  pub units : AllByRecursion (λ equation. unit_of equation.name ≡ unit) equations
  pub components : AllByRecursion (λ equation. component_of equation.name ≡ component) equations
  pub spelled : AllByRecursion (λ equation. IsSpelled equation.name 96) equations
  pub differ : Differ (names_of equations)

names-flat : {X : Type 0} (rows : X → List UnitEquation) (xs : List X) → names_of (flat_map rows xs) ≡ flat_map (λ x. names_of (rows x)) xs
names-flat rows [] = refl
names-flat rows (x ∷ xs) =
    ap names_of (flat_map-cons rows x xs) ∙ map-append (λ equation. equation.name) (rows x) (flat_map rows xs)
    ∙ ap (λ names. names_of (rows x) ++ names) (names-flat rows xs) ∙ sym (flat_map-cons (λ x. names_of (rows x)) x xs)

same-ids : (names : List (List ℕ)) → map (λ name. name) names ≡ names
same-ids [] = refl
same-ids (name ∷ names) = ap (λ rest. name ∷ rest) (same-ids names)

-- the equations of all components
pub flat-each : (unit : List ℕ) (rows : List ℕ → List UnitEquation) (components : List (List ℕ)) →
    AllByRecursion (λ component. AreOf unit component (rows component)) components → Differ components →
    AreNames unit (flat_map rows components)
flat-each unit rows components all differ = record {
  owned = all-flat_map (λ component. AreOf unit component (rows component))
      (λ equation. unit_of equation.name ≡ unit) rows components (λ component are. are.units) all;
  differ = subst Differ (sym (names-flat rows components))
      (keyed-differ component_of (λ name. name) (λ component. names_of (rows component)) components
      (all-weaker (λ component. AreOf unit component (rows component)) (GivesKeyed component_of (λ name. name)
      (λ component. names_of (rows component))) components
      (λ component are. record {
        differ = are.differ;
        keys = all-map (λ equation. component_of equation.name ≡ component) (λ name. component_of name ≡ component)
            (λ equation. equation.name) (rows component) (λ equation same. same) are.components;
      }) all)
      (subst Differ (sym (same-ids components)) differ));
  spelled = all-flat_map (λ component. AreOf unit component (rows component))
      (λ equation. IsSpelled equation.name 96) rows components (λ component are. are.spelled) all;
}

-- the splits of a component, by the numbers of their outlets
module _ {X : Type 0} (version : Version) (word unit component : List ℕ) (number : X → ℕ) (make : X → UnitEquation)
    (w : IsWord word) (u : IsShort unit) (c : IsShort component)
    (named : (x : X) → (make x).name ≡ outlet_word version (own_for word unit component) (number x)) where
  all-told : (P : List ℕ → Type 0) (xs : List X) → ((x : X) → number x < 2 ^ 64 →
      P (outlet_word version (own_for word unit component) (number x))) → AllByRecursion (λ x. number x < 2 ^ 64) xs →
      AllByRecursion (λ equation. P equation.name) (map make xs)
  all-told P xs holds small =
      all-map (λ x. number x < 2 ^ 64) (λ equation. P equation.name) make xs (λ x less. subst P (sym (named x)) (holds x less)) small

  splits-words : (xs : List X) → AllByRecursion (λ x. number x < 2 ^ 64) xs → AllByRecursion (λ equation. word_of equation.name ≡ word) (map make xs)
  splits-words xs small = all-told (λ name. word_of name ≡ word) xs (λ x less. numbered-word word unit component w u c version (number x)) small

  few-differ : (xs : List X) → length xs ≤ 1 → Differ (map (λ x. (make x).name) xs)
  few-differ [] few = tt
  few-differ (x ∷ []) few = (refl, tt)
  few-differ (x ∷ y ∷ xs) few = absurd (omega (arith, few))

  -- the last part of a name is its number, where there is one
  by-version : (v : Version) → v ≡ version → (xs : List X) → Fits v (length xs) → AreNumbers number xs → Differ (map (λ x. (make x).name) xs)
  by-version One is xs few are = few-differ xs few
  by-version Two is xs few are =
      map-differ (λ name. after_first is_point (behind_unit name)) (λ x. decimal (number x)) (λ x. (make x).name) xs
      (all-weaker (λ x. number x < 2 ^ 64) (λ x. after_first is_point (behind_unit ((make x).name)) ≡ decimal (number x)) xs
      (λ x less. ap (λ name. after_first is_point (behind_unit name)) (named x
      ∙ ap (λ v. outlet_word v (own_for word unit component) (number x)) (sym is))
      ∙ numbered-number word unit component w u c (number x)) are.0) are.1

  pub splits-of : (xs : List X) → Fits version (length xs) → AreNumbers number xs → AreOf unit component (map make xs)
  splits-of xs few are = record {
    units = all-told (λ name. unit_of name ≡ unit) xs (λ x less. numbered-unit word unit component w u c version (number x)) are.0;
    components = all-told (λ name. component_of name ≡ component) xs (λ x less. numbered-component word unit component w u c version (number x)) are.0;
    spelled = all-told (λ name. IsSpelled name 96) xs (λ x less. numbered-spelled word unit component w u c version (number x) less) are.0;
    differ = subst Differ (sym (map-map (λ equation. equation.name) make xs)) (by-version version refl xs few are);
  }

  -- and with an equation of another word before them
  pub balance-and-splits : (first : List ℕ) (balance : UnitEquation) (xs : List X) → IsWord first →
      balance.name ≡ own_for first unit component → bytes_eq first word ≡ false → Fits version (length xs) →
      AreNumbers number xs → AreOf unit component (balance ∷ map make xs)
  balance-and-splits first balance xs f is other few are =
      let splits = splits-of xs few are in
      record {
        units = (ap unit_of is ∙ own_for-unit first unit component f u c, splits.units);
        components = (ap component_of is ∙ own_for-component first unit component f u c, splits.components);
        spelled = (
          subst (λ name. IsSpelled name 96) (sym is) (spelled-more (own_for first unit component) 67 96
              (own_for-spelled first unit component f u c) (omega arith)),
          splits.spelled,
        );
        differ = (
          none-keyed word_of (word ∷ []) (names_of (map make xs)) balance.name
              (all-map (λ equation. word_of equation.name ≡ word)
              (λ name. has_name (word ∷ []) (word_of name) ≡ true) (λ equation. equation.name) (map make xs)
              (λ equation same. has-self [] word (word_of equation.name) same) (splits-words xs are.0))
              (ap (has_name (word ∷ [])) (ap word_of is ∙ own_for-word first unit component f u c) ∙ rw other refl),
          splits.differ,
        );
      }
