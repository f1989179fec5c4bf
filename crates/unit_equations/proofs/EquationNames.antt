-- The names of a unit's equations: they differ, tell the unit, and may stand in a model.
use Rattle.std.proofs.Common.{◌≡◌, ℕ, ◌+◌, ◌<◌, ◌≤◌, ◌^◌, Bool, true, false, List, [], ◌∷◌, length, map, refl, sym, ap, subst, ◌∙◌, arith}
use Rattle.std.specs.Fmt.{decimal}
use Rattle.std.specs.List.{AllByRecursion, after_first, enumerate_from, zip}
use Rattle.std.specs.Str.{bytes_eq}
use Rattle.std.proofs.lemmas.Fmt.{decimal_injective}
use Rattle.std.proofs.lemmas.Simd.{map-map}
use Rattle.std.proofs.lemmas.Slice.Eq.{bytes_eq-Decides}
use Rattle.line_lexer.specs.Numbers.{is_point}
use Rattle.mixed_model.specs.Names.{has_name}
use Rattle.term_model.specs.Terms.{dotted}
use Rattle.term_model.proofs.Lists.{Differ, all-map}
use Rattle.unit_equations.specs.declared.version.Version.{Version}
use Rattle.unit_equations.specs.declared.version.Version.TheVariants.{One, Two}
use Rattle.unit_equations.specs.Kinds.{outlet_word, own_for}
use Rattle.unit_equations.specs.Parts.{UnitEquation}
use Rattle.unit_equations.proofs.Dots.{behind-longer, behind_unit, before-dotless, before-dotted, after-dotted}
use Rattle.unit_equations.proofs.Dots.{component_of, dotted-assoc, is_dotless, unit_of, unit_of-longer, word_of}
use Rattle.unit_equations.proofs.Keyed.{all-weaker, map-differ}
use Rattle.unit_equations.proofs.Spelled.{IsShort, IsSpelled, decimal-spelled, spelled-dotted, spelled-more}

abbrev pub names_of : List UnitEquation → List (List ℕ)
names_of equations = map (λ equation. equation.name) equations

-- the names of some equations of a unit
pub record AreNames (unit : List ℕ) (equations : List UnitEquation) : Type 0 where
  pub owned : AllByRecursion (λ equation. unit_of equation.name ≡ unit) equations
  pub differ : Differ (names_of equations)
  pub spelled : AllByRecursion (λ equation. IsSpelled equation.name 96) equations

-- a word before a unit's name
pub record IsWord (word : List ℕ) : Type 0 where
  pub dotless : is_dotless word ≡ true
  pub spelled : IsSpelled word 5

-- the name of an equation for a component
module _ (word unit component : List ℕ) (w : IsWord word) (u : IsShort unit) (c : IsShort component) where
  pub own_for-unit : unit_of (own_for word unit component) ≡ unit
  own_for-unit = unit_of-longer word unit component w.dotless u.dotless

  pub own_for-component : component_of (own_for word unit component) ≡ component
  own_for-component = ap word_of (behind-longer word unit component w.dotless u.dotless) ∙ before-dotless component c.dotless

  pub own_for-word : word_of (own_for word unit component) ≡ word
  own_for-word = before-dotted word (dotted unit component) w.dotless

  pub own_for-spelled : IsSpelled (own_for word unit component) 67
  own_for-spelled = spelled-dotted word (dotted unit component) 5 61 w.spelled (spelled-dotted unit component 30 30 u.spelled c.spelled)

  -- and with the number of an outlet
  numbered-form : (k : ℕ) → outlet_word Two (own_for word unit component) k ≡ dotted word (dotted unit (dotted component (decimal k)))
  numbered-form k =
      dotted-assoc word (dotted unit component) (decimal k) ∙ ap (dotted word) (dotted-assoc unit component (decimal k))

  pub numbered-unit : (version : Version) (k : ℕ) → unit_of (outlet_word version (own_for word unit component) k) ≡ unit
  numbered-unit One k = own_for-unit
  numbered-unit Two k = ap unit_of (numbered-form k) ∙ unit_of-longer word unit (dotted component (decimal k)) w.dotless u.dotless

  pub numbered-component : (version : Version) (k : ℕ) → component_of (outlet_word version (own_for word unit component) k) ≡ component
  numbered-component One k = own_for-component
  numbered-component Two k =
      ap component_of (numbered-form k)
      ∙ ap word_of (behind-longer word unit (dotted component (decimal k)) w.dotless u.dotless)
      ∙ before-dotted component (decimal k) c.dotless

  pub numbered-word : (version : Version) (k : ℕ) → word_of (outlet_word version (own_for word unit component) k) ≡ word
  numbered-word One k = own_for-word
  numbered-word Two k = ap word_of (numbered-form k) ∙ before-dotted word (dotted unit (dotted component (decimal k))) w.dotless

  pub numbered-spelled : (version : Version) (k : ℕ) → k < 2 ^ 64 → IsSpelled (outlet_word version (own_for word unit component) k) 96
  numbered-spelled One k small = spelled-more (own_for word unit component) 67 96 own_for-spelled (omega arith)
  numbered-spelled Two k small =
      spelled-more (outlet_word Two (own_for word unit component) k) 88 96
      (spelled-dotted (own_for word unit component) (decimal k) 67 20 own_for-spelled (decimal-spelled k small))
      (omega arith)

  -- the number that it tells
  pub numbered-number : (k : ℕ) → after_first is_point (behind_unit (outlet_word Two (own_for word unit component) k)) ≡ decimal k
  numbered-number k =
      ap (λ name. after_first is_point (behind_unit name)) (numbered-form k)
      ∙ ap (after_first is_point) (behind-longer word unit (dotted component (decimal k)) w.dotless u.dotless)
      ∙ after-dotted component (decimal k) c.dotless

-- numbers that are told apart
abbrev pub AreNumbers : {X : Type 0} → (X → ℕ) → List X → Type 0
AreNumbers number xs = AllByRecursion (λ x. number x < 2 ^ 64) xs × Differ (map (λ x. decimal (number x)) xs)

enumerated-new : {X : Type 0} (n k : ℕ) (xs : List X) → k < n → n + length xs ≤ 2 ^ 64 →
    has_name (map (λ (x : ℕ × X). decimal x.0) (enumerate_from n xs)) (decimal k) ≡ false
enumerated-new n k [] less few = refl
enumerated-new n k (x ∷ xs) less few = by (bytes_eq (decimal k) (decimal n)) refl (enumerated-new (n + 1) k xs (omega (arith, less)) (omega (arith, few)))
  where
    by : (b : Bool) → bytes_eq (decimal k) (decimal n) ≡ b →
        has_name (map (λ (x : ℕ × _). decimal x.0) (enumerate_from (n + 1) xs)) (decimal k) ≡ false →
        has_name (map (λ (x : ℕ × _). decimal x.0) (enumerate_from n (x ∷ xs))) (decimal k) ≡ false
    by false e rest = rw e rest
    by true e rest =
        let same : k ≡ n = decimal_injective k n (omega (arith, less, few)) (omega (arith, few)) ((bytes_eq-Decides (decimal k) (decimal n)).0 e) in
        absurd (omega (arith, less, same))

pub enumerated-numbers : {X : Type 0} (n : ℕ) (xs : List X) → n + length xs ≤ 2 ^ 64 → AreNumbers (λ (x : ℕ × X). x.0) (enumerate_from n xs)
enumerated-numbers n [] few = (tt, tt)
enumerated-numbers n (x ∷ xs) few =
    let rest = enumerated-numbers (n + 1) xs (omega (arith, few)) in
    ((omega (arith, few), rest.0), (enumerated-new (n + 1) n xs (omega arith) (omega (arith, few)), rest.1))

-- and with something beside each
zipped-new : {X Y : Type 0} (number : X → ℕ) (xs : List X) (ys : List Y) (text : List ℕ) →
    has_name (map (λ x. decimal (number x)) xs) text ≡ false →
    has_name (map (λ (p : X × Y). decimal (number p.0)) (zip xs ys)) text ≡ false
zipped-new number [] ys text new = refl
zipped-new number (x ∷ xs) [] text new = refl
zipped-new number (x ∷ xs) (y ∷ ys) text new = by (bytes_eq text (decimal (number x))) refl new (λ rest. zipped-new number xs ys text rest)
  where
    by : (b : Bool) → bytes_eq text (decimal (number x)) ≡ b →
        has_name (map (λ x. decimal (number x)) (x ∷ xs)) text ≡ false →
        (has_name (map (λ x. decimal (number x)) xs) text ≡ false →
        has_name (map (λ (p : _ × _). decimal (number p.0)) (zip xs ys)) text ≡ false) →
        has_name (map (λ (p : _ × _). decimal (number p.0)) (zip (x ∷ xs) (y ∷ ys))) text ≡ false
    by true e none more = let f : ⊥ = cc in absurd f
    by false e none more = rw e (more (sym (rw e refl) ∙ none))

pub zipped-numbers : {X Y : Type 0} (number : X → ℕ) (xs : List X) (ys : List Y) → AreNumbers number xs → AreNumbers (λ (p : X × Y). number p.0) (zip xs ys)
zipped-numbers number [] ys are = (tt, tt)
zipped-numbers number (x ∷ xs) [] are = (tt, tt)
zipped-numbers number (x ∷ xs) (y ∷ ys) are =
    let rest = zipped-numbers number xs ys (are.0.1, are.1.1) in
    ((are.0.0, rest.0), (zipped-new number xs ys (decimal (number x)) are.1.0, rest.1))

-- one equation for each component, by its name
pub one-each : {X : Type 0} (word unit : List ℕ) (id : X → List ℕ) (make : X → UnitEquation) (xs : List X) →
    IsWord word → IsShort unit → ((x : X) → (make x).name ≡ own_for word unit (id x)) →
    AllByRecursion (λ x. IsShort (id x)) xs → Differ (map id xs) → AreNames unit (map make xs)
one-each {X} word unit id make xs w u named short differ = record {
  owned = all-map (λ x. IsShort (id x)) (λ equation. unit_of equation.name ≡ unit) make xs
      (λ x c. ap unit_of (named x) ∙ own_for-unit word unit (id x) w u c) short;
  differ = subst Differ (sym (map-map (λ equation. equation.name) make xs))
      (map-differ component_of id (λ x. (make x).name) xs
      (all-weaker (λ x. IsShort (id x)) (λ x. component_of ((make x).name) ≡ id x) xs
      (λ x c. ap component_of (named x) ∙ own_for-component word unit (id x) w u c) short) differ);
  spelled = all-map (λ x. IsShort (id x)) (λ equation. IsSpelled equation.name 96) make xs
      (λ x c. subst (λ name. IsSpelled name 96) (sym (named x)) (spelled-more (own_for word unit (id x)) 67 96
      (own_for-spelled word unit (id x) w u c) (omega arith))) short;
}
