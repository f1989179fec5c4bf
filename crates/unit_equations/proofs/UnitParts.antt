-- What a unit adds, kind by kind: names that tell the unit, and equations over unknowns that are there.
use Rattle.std.proofs.Common.{◌≡◌, ℕ, zero, suc, ◌+◌, ◌-◌, ◌<◌, ◌≤◌, ◌^◌, Bool, true, false, ◌||◌, List, [], ◌∷◌}
use Rattle.std.proofs.Common.{◌++◌, length, map, take, codes, refl, sym, ap, subst, ◌∙◌, arith}
use Rattle.std.specs.List.{AllByRecursion, enumerate_from, flat_map, zip}
use Rattle.std.specs.Str.{bytes_eq}
use Rattle.std.proofs.lemmas.List.{length-take-le}
use Rattle.std.proofs.lemmas.Simd.{map-map}
use Rattle.std.proofs.lemmas.Slice.Eq.{bytes_eq-Decides}
use Rattle.mixed_model.specs.Names.{has_name}
use Rattle.term_model.specs.Terms.{dotted}
use Rattle.term_model.proofs.Lists.{Differ, all-flat_map, all-map}
use Rattle.term_model.proofs.NamesAmong.{has-left, has-right}
use Rattle.unit_equations.specs.declared.version.Version.{Version}
use Rattle.unit_equations.specs.Adding.{IsFilledSummand}
use Rattle.unit_equations.specs.Kinds.{balance, but_last, conserved, each_times, fixed_split, flow, flows, mixer}
use Rattle.unit_equations.specs.Kinds.{outlet_word, open_split, own_for, reactor, relation, separator, specification}
use Rattle.unit_equations.specs.Kinds.{tee}
use Rattle.unit_equations.specs.Parts.{UnitEquation, UnitPart, less, open_at, times}
use Rattle.unit_equations.proofs.Dots.{is_dotless, unit_of, unit_of-own, word_of, before-dotted}
use Rattle.unit_equations.proofs.EquationNames.{AreNames, AreNumbers, IsWord, enumerated-numbers, one-each, zipped-numbers}
use Rattle.unit_equations.proofs.Keyed.{all-own, all-weaker, has-self, none-keyed}
use Rattle.unit_equations.proofs.Spelled.{IsShort, IsSpelled, spelled-dotted, spelled-more}
use Rattle.unit_equations.proofs.SplitNames.{AreOf, Fits, balance-and-splits, flat-each}
use Rattle.unit_equations.proofs.SummandLaws.{Stand, flow-word, has-flow, flows-differ, less-differ, less-filled}
use Rattle.unit_equations.proofs.SummandLaws.{less-new, less-there, minus-filled, one-filled, open-filled}
use Rattle.unit_equations.proofs.SummandLaws.{open-stands, share-stands, sum-stands, unknowns_of}

-- what a unit adds beside flows and other unknowns
pub record IsUnitPart (p : ℕ) (unknowns : List (List ℕ)) (unit : List ℕ) (part : UnitPart) : Type 0 where
  pub names : AreNames unit part.equations
  pub units : AllByRecursion (λ name. unit_of name ≡ unit) part.unknowns
  pub words : AllByRecursion (λ name. bytes_eq (word_of name) (codes "f") ≡ false) part.unknowns
  pub differ : Differ part.unknowns
  pub spelled : AllByRecursion (λ name. IsSpelled name 96) part.unknowns
  pub stand : AllByRecursion (λ equation. Stand p unknowns equation.summands) part.equations

-- names that are declared, as short as all declared ones
pub short-among : (names : List (List ℕ)) (name : List ℕ) → AllByRecursion IsShort names → has_name names name ≡ true → IsShort name
short-among [] name short there = let f : ⊥ = cc in absurd f
short-among (other ∷ names) name short there = by (bytes_eq name other) refl there (short-among names name short.1)
  where
    by : (b : Bool) → bytes_eq name other ≡ b → (b || has_name names name) ≡ true → (has_name names name ≡ true → IsShort name) → IsShort name
    by true e here more = subst IsShort (sym ((bytes_eq-Decides name other).0 e)) short.0
    by false e here more = more here

word-is : (word : List ℕ) → is_dotless word ≡ true → IsSpelled word 5 → IsWord word
word-is word dotless spelled = record { dotless = dotless; spelled = spelled }

-- the words, which a proof computes
mix-word : IsWord (codes "mix")
mix-word = word-is (codes "mix") refl (record { some = omega arith; bytes = refl; short = omega arith })

bal-word : IsWord (codes "bal")
bal-word = word-is (codes "bal") refl (record { some = omega arith; bytes = refl; short = omega arith })

split-word : IsWord (codes "split")
split-word = word-is (codes "split") refl (record { some = omega arith; bytes = refl; short = omega arith })

tee-word : IsWord (codes "tee")
tee-word = word-is (codes "tee") refl (record { some = omega arith; bytes = refl; short = omega arith })

rea-word : IsWord (codes "rea")
rea-word = word-is (codes "rea") refl (record { some = omega arith; bytes = refl; short = omega arith })

spec-word : IsWord (codes "spec")
spec-word = word-is (codes "spec") refl (record { some = omega arith; bytes = refl; short = omega arith })

heat-word : IsWord (codes "heat")
heat-word = word-is (codes "heat") refl (record { some = omega arith; bytes = refl; short = omega arith })

rel-word : IsWord (codes "rel")
rel-word = word-is (codes "rel") refl (record { some = omega arith; bytes = refl; short = omega arith })

x-word : IsWord (codes "x")
x-word = word-is (codes "x") refl (record { some = omega arith; bytes = refl; short = omega arith })

q-word : IsWord (codes "q")
q-word = word-is (codes "q") refl (record { some = omega arith; bytes = refl; short = omega arith })

own-spelled : (word unit : List ℕ) → IsWord word → IsShort unit → IsSpelled (dotted word unit) 96
own-spelled word unit w u = spelled-more (dotted word unit) 36 96 (spelled-dotted word unit 5 30 w.spelled u.spelled) (omega arith)

-- one equation alone
one-name : (word unit : List ℕ) (equation : UnitEquation) → IsWord word → IsShort unit → equation.name ≡ dotted word unit → AreNames unit (equation ∷ [])
one-name word unit equation w u is = record {
  owned = (ap unit_of is ∙ unit_of-own word unit w.dotless u.dotless, tt);
  differ = (refl, tt);
  spelled = (subst (λ name. IsSpelled name 96) (sym is) (own-spelled word unit w u), tt);
}

-- of a stream and others that it is none of
abbrev pub IsOther : List (List ℕ) → List ℕ → List ℕ → Type 0
IsOther streams inlet stream =
    (has_name streams stream ≡ true) × (bytes_eq inlet stream ≡ false) × (bytes_eq stream inlet ≡ false)

pub others-of : (streams : List (List ℕ)) (inlet : List ℕ) (outlets : List (List ℕ)) →
    AllByRecursion (λ stream. has_name streams stream ≡ true) outlets → has_name outlets inlet ≡ false →
    AllByRecursion (IsOther streams inlet) outlets
others-of streams inlet [] there none = tt
others-of streams inlet (outlet ∷ outlets) there none = by (bytes_eq inlet outlet) refl none (others-of streams inlet outlets there.1)
  where
    back : bytes_eq inlet outlet ≡ false → (b : Bool) → bytes_eq outlet inlet ≡ b → bytes_eq outlet inlet ≡ false
    back apart false e = e
    back apart true e =
        let both : false ≡ true = sym apart ∙ (bytes_eq-Decides inlet outlet).1 (sym ((bytes_eq-Decides outlet inlet).0 e)) in
        let f : ⊥ = cc in absurd f

    by : (b : Bool) → bytes_eq inlet outlet ≡ b → (b || has_name outlets inlet) ≡ false →
        (has_name outlets inlet ≡ false → AllByRecursion (IsOther streams inlet) outlets) →
        AllByRecursion (IsOther streams inlet) (outlet ∷ outlets)
    by true e others more = let f : ⊥ = cc in absurd f
    by false e others more = ((there.0, e, back e (bytes_eq outlet inlet) refl), more others)

all-taken : (P : List ℕ → Type 0) (n : ℕ) (names : List (List ℕ)) → AllByRecursion P names → AllByRecursion P (take n names)
all-taken P n [] all = by n
  where
    by : (n : ℕ) → AllByRecursion P (take n [])
    by zero = tt
    by (suc n) = tt
all-taken P zero (name ∷ names) all = tt
all-taken P (suc n) (name ∷ names) all = (all.0, all-taken P n names all.1)

all-numbered : (P : List ℕ → Type 0) (n : ℕ) (names : List (List ℕ)) → AllByRecursion P names →
    AllByRecursion (λ (x : ℕ × List ℕ). P x.1) (enumerate_from n names)
all-numbered P n [] all = tt
all-numbered P n (name ∷ names) all = (all.0, all-numbered P (n + 1) names all.1)

all-zipped : {X Y : Type 0} (P : X → Type 0) (xs : List X) (ys : List Y) → AllByRecursion P xs → AllByRecursion (λ (x : X × Y). P x.0) (zip xs ys)
all-zipped P [] ys all = tt
all-zipped P (x ∷ xs) [] all = tt
all-zipped P (x ∷ xs) (y ∷ ys) all = (all.0, all-zipped P xs ys all.1)

zip-shorter : {X Y : Type 0} (xs : List X) (ys : List Y) → length (zip xs ys) ≤ length xs
zip-shorter [] ys = omega arith
zip-shorter (x ∷ xs) [] = omega arith
zip-shorter (x ∷ xs) (y ∷ ys) = omega (arith, zip-shorter xs ys)

fits-fewer : (version : Version) (m n : ℕ) → m ≤ n → Fits version n → Fits version m
fits-fewer Version.One m n less fits = omega (arith, less, fits)
fits-fewer Version.Two m n less fits = tt

but_last-numbers : (outlets : List (List ℕ)) → length outlets < 2 ^ 64 → AreNumbers (λ (x : ℕ × List ℕ). x.0) (but_last outlets)
but_last-numbers outlets few =
    enumerated-numbers 1 (take (length outlets - 1) outlets) (omega (arith, few, length-take-le (length outlets - 1) outlets (omega arith)))

module _ (p : ℕ) (odd : 2 < p) (components streams rest : List (List ℕ)) (unit : List ℕ)
    (good : AllByRecursion IsShort components) (apart : Differ components) (short : AllByRecursion IsShort streams) (u : IsShort unit) where
  there : List ℕ → Type 0
  there stream = has_name streams stream ≡ true

  shorts : (names : List (List ℕ)) → AllByRecursion (λ stream. has_name streams stream ≡ true) names → AllByRecursion IsShort names
  shorts names all = all-weaker (λ stream. has_name streams stream ≡ true) IsShort names (λ name is. short-among streams name short is) all

  pub mixer-part : (inlets : List (List ℕ)) (outlet : List ℕ) →
      AllByRecursion (λ stream. has_name streams stream ≡ true) (outlet ∷ inlets) → Differ (outlet ∷ inlets) →
      IsUnitPart p (flows components streams ++ rest) unit (mixer p components unit inlets outlet)
  mixer-part inlets outlet declared differ = record {
    names = one-each (codes "mix") unit (λ name. name)
        (λ component. record {
          name = own_for (codes "mix") unit component;
          summands =
              times 1 (flow outlet component) ∷ each_times (p - 1) inlets component;
        }) components mix-word u
        (λ component. refl) good (subst Differ (sym (ids components)) apart);
    units = tt;
    words = tt;
    differ = tt;
    spelled = tt;
    stand = all-map (λ component. has_name components component ≡ true)
        (λ equation. Stand p (flows components streams ++ rest) equation.summands)
        (λ component. record {
          name = own_for (codes "mix") unit component;
          summands =
              times 1 (flow outlet component) ∷ each_times (p - 1) inlets component;
        }) components
        (λ component among. sum-stands p odd components streams rest component among outlet inlets declared
        (shorts (outlet ∷ inlets) declared) differ) (all-own components);
  }
    where
      ids : (names : List (List ℕ)) → map (λ name. name) names ≡ names
      ids [] = refl
      ids (name ∷ names) = ap (λ rest. name ∷ rest) (ids names)

  -- a stream and others that differ from it
  pair-of : (inlet stream : List ℕ) → has_name streams inlet ≡ true → IsOther streams inlet stream →
      AllByRecursion (λ stream. has_name streams stream ≡ true) (inlet ∷ stream ∷ [])
  pair-of inlet stream declared other = (declared, (other.0, tt))

  pair-back : (inlet stream : List ℕ) → has_name streams inlet ≡ true → IsOther streams inlet stream →
      AllByRecursion (λ stream. has_name streams stream ≡ true) (stream ∷ inlet ∷ [])
  pair-back inlet stream declared other = (other.0, (declared, tt))

  pair-differ : (inlet stream : List ℕ) → bytes_eq inlet stream ≡ false → Differ (inlet ∷ stream ∷ [])
  pair-differ inlet stream other = (rw other refl, (refl, tt))

  -- the balance of a component, and its splits
  module _ {X : Type 0} (version : Version) (word inlet : List ℕ) (outlets : List (List ℕ)) (number : X → ℕ) (make : List ℕ → X → UnitEquation) (xs : List X)
      (w : IsWord word) (other : bytes_eq (codes "bal") word ≡ false)
      (declared : AllByRecursion (λ stream. has_name streams stream ≡ true) (inlet ∷ outlets)) (differ : Differ (inlet ∷ outlets))
      (named : (component : List ℕ) (x : X) → (make component x).name ≡ outlet_word version (own_for word unit component) (number x))
      (fits : Fits version (length xs)) (numbers : AreNumbers number xs)
      (stands : (component : List ℕ) → has_name components component ≡ true →
      AllByRecursion (λ x. Stand p (flows components streams ++ rest) (make component x).summands) xs) where
    abbrev pub rows : List ℕ → List UnitEquation
    rows component = conserved p unit inlet outlets component ∷ map (make component) xs

    row-stands : (component : List ℕ) → has_name components component ≡ true →
        AllByRecursion (λ equation. Stand p (flows components streams ++ rest) equation.summands) (rows component)
    row-stands component among = (
      sum-stands p odd components streams rest component among inlet outlets declared (shorts (inlet ∷ outlets) declared) differ,
      all-map (λ x. Stand p (flows components streams ++ rest) (make component x).summands)
          (λ equation. Stand p (flows components streams ++ rest) equation.summands) (make component) xs
          (λ x stand. stand) (stands component among),
    )

    pub splits-part : IsUnitPart p (flows components streams ++ rest) unit (record { unknowns = []; equations = flat_map rows components })
    splits-part = record {
      names = flat-each unit rows components
          (all-weaker IsShort (λ component. AreOf unit component (rows component)) components (λ component c.
          balance-and-splits version word unit component number (make component) w u c (named component)
          (codes "bal") (conserved p unit inlet outlets component) xs bal-word refl other fits numbers) good) apart;
      units = tt;
      words = tt;
      differ = tt;
      spelled = tt;
      stand = all-flat_map (λ component. has_name components component ≡ true)
          (λ equation. Stand p (flows components streams ++ rest) equation.summands) rows components row-stands
          (all-own components);
    }

  pub separator-part : (version : Version) (inlet : List ℕ) (outlets : List (List ℕ)) →
      AllByRecursion (λ stream. has_name streams stream ≡ true) (inlet ∷ outlets) → Differ (inlet ∷ outlets) →
      length outlets < 2 ^ 64 → Fits version (length (but_last outlets))
      → IsUnitPart p (flows components streams ++ rest) unit (separator p version components unit inlet outlets)
  separator-part version inlet outlets declared differ few fits =
      splits-part version (codes "split") inlet outlets (λ (x : ℕ × List ℕ). x.0) (open_split version unit inlet)
      (but_last outlets) split-word refl declared differ
      (λ component x. refl) fits (but_last-numbers outlets few)
      (λ component among. all-weaker (λ (x : ℕ × List ℕ). IsOther streams inlet x.1)
      (λ x. Stand p (flows components streams ++ rest) (open_split version unit inlet component x).summands)
      (but_last outlets)
      (λ x is. open-stands p odd components streams rest component among inlet x.1 (pair-of inlet x.1 declared.0 is)
      (shorts (inlet ∷ x.1 ∷ []) (pair-of inlet x.1 declared.0 is)) (pair-differ inlet x.1 is.1))
      (all-numbered (IsOther streams inlet) 1 (take (length outlets - 1) outlets)
      (all-taken (IsOther streams inlet) (length outlets - 1) outlets
      (others-of streams inlet outlets declared.1 differ.0))))

  pub tee-part : (version : Version) (inlet : List ℕ) (outlets : List (List ℕ)) (fractions : List ℕ) →
      AllByRecursion (λ stream. has_name streams stream ≡ true) (inlet ∷ outlets) → Differ (inlet ∷ outlets) →
      length outlets < 2 ^ 64 → Fits version (length (but_last outlets))
      → IsUnitPart p (flows components streams ++ rest) unit (tee p version components unit inlet outlets fractions)
  tee-part version inlet outlets fractions declared differ few fits =
      splits-part version (codes "tee") inlet outlets (λ (x : (ℕ × List ℕ) × ℕ). x.0.0)
      (fixed_split p version unit inlet) (zip (but_last outlets) fractions) tee-word refl declared differ
      (λ component x. refl) (fits-fewer version (length (zip (but_last outlets) fractions))
      (length (but_last outlets)) (zip-shorter (but_last outlets) fractions) fits)
      (zipped-numbers (λ (x : ℕ × List ℕ). x.0) (but_last outlets) fractions (but_last-numbers outlets few))
      (λ component among. all-weaker (λ (x : (ℕ × List ℕ) × ℕ). IsOther streams inlet x.0.1)
      (λ x. Stand p (flows components streams ++ rest) (fixed_split p version unit inlet component x).summands)
      (zip (but_last outlets) fractions)
      (λ x is. share-stands p odd components streams rest component among x.0.1 inlet
      (pair-back inlet x.0.1 declared.0 is) (shorts (x.0.1 ∷ inlet ∷ []) (pair-back inlet x.0.1 declared.0 is))
      (pair-differ x.0.1 inlet is.2) x.1)
      (all-zipped (λ (x : ℕ × List ℕ). IsOther streams inlet x.1) (but_last outlets) fractions
      (all-numbered (IsOther streams inlet) 1 (take (length outlets - 1) outlets)
      (all-taken (IsOther streams inlet) (length outlets - 1) outlets
      (others-of streams inlet outlets declared.1 differ.0)))))

  -- the extent of a reaction is none of the flows
  apart-word : (word : List ℕ) → IsWord word → bytes_eq word (codes "f") ≡ false → (stream component : List ℕ) →
      bytes_eq (flow stream component) (dotted word unit) ≡ false
  apart-word word w other stream component = by (bytes_eq (flow stream component) (dotted word unit)) refl
    where
      by : (b : Bool) → bytes_eq (flow stream component) (dotted word unit) ≡ b → bytes_eq (flow stream component) (dotted word unit) ≡ false
      by false e = e
      by true e =
          let same : word ≡ codes "f" = sym (before-dotted word unit w.dotless)
          ∙ ap word_of (sym ((bytes_eq-Decides (flow stream component) (dotted word unit)).0 e))
          ∙ flow-word stream component in
          let both : false ≡ true = sym other ∙ (bytes_eq-Decides word (codes "f")).1 same in
          let f : ⊥ = cc in absurd f

  abbrev made_equation : List ℕ → List ℕ → List ℕ × ℕ → UnitEquation
  made_equation inlet outlet x = record {
    name = own_for (codes "rea") unit x.0;
    summands =
        times 1 (flow outlet x.0) ∷ times (p - 1) (flow inlet x.0) ∷ less p x.1 (dotted (codes "x") unit);
  }

  pub reactor-part : (inlet outlet : List ℕ) (made : List (List ℕ × ℕ)) →
      AllByRecursion (λ stream. has_name streams stream ≡ true) (outlet ∷ inlet ∷ []) → Differ (outlet ∷ inlet ∷ [])
      → AllByRecursion (λ (x : List ℕ × ℕ). has_name components x.0 ≡ true) made →
      Differ (map (λ (x : List ℕ × ℕ). x.0) made) → has_name rest (dotted (codes "x") unit) ≡ true
      → IsUnitPart p (flows components streams ++ rest) unit (reactor p unit inlet outlet made)
  reactor-part inlet outlet made declared differ among new extent = record {
    names = one-each (codes "rea") unit (λ (x : List ℕ × ℕ). x.0) (made_equation inlet outlet) made rea-word u
        (λ x. refl) (all-weaker (λ (x : List ℕ × ℕ). has_name components x.0 ≡ true) (λ x. IsShort x.0) made
        (λ x is. short-among components x.0 good is) among) new;
    units = (unit_of-own (codes "x") unit refl u.dotless, tt);
    words = (ap (λ name. bytes_eq name (codes "f")) (before-dotted (codes "x") unit refl), tt);
    differ = (refl, tt);
    spelled = (own-spelled (codes "x") unit x-word u, tt);
    stand = all-map (λ (x : List ℕ × ℕ). has_name components x.0 ≡ true)
        (λ equation. Stand p (flows components streams ++ rest) equation.summands)
        (made_equation inlet outlet) made row-stands among;
  }
    where
      row-stands : (x : List ℕ × ℕ) → has_name components x.0 ≡ true → Stand p (flows components streams ++ rest) (made_equation inlet outlet x).summands
      row-stands x is =
          let pair = sum-stands p odd components streams rest x.0 is outlet (inlet ∷ []) declared (shorts (outlet ∷ inlet ∷ []) declared) differ in
          record {
            there = (
              pair.there.0,
              (
                pair.there.1.0,
                less-there p x.1 (dotted (codes "x") unit)
                    (flows components streams ++ rest) (has-right (flows components streams) rest
                    (dotted (codes "x") unit) extent),
              ),
            );
            differ = (
              rw (first-of pair.differ.0, less-new p x.1 (dotted (codes "x") unit) (flow outlet x.0) (apart-word (codes "x") x-word refl outlet x.0)) refl,
              (
                less-new p x.1 (dotted (codes "x") unit) (flow inlet x.0)
                    (apart-word (codes "x") x-word refl inlet x.0),
                less-differ p x.1 (dotted (codes "x") unit),
              ),
            );
            filled = (one-filled p (flow outlet x.0) odd, (minus-filled p (flow inlet x.0) odd, less-filled p x.1 (dotted (codes "x") unit) odd));
          }
        where
          first-of : (bytes_eq (flow outlet x.0) (flow inlet x.0) || false) ≡ false → bytes_eq (flow outlet x.0) (flow inlet x.0) ≡ false
          first-of e = by (bytes_eq (flow outlet x.0) (flow inlet x.0)) refl e
            where
              by : (b : Bool) → bytes_eq (flow outlet x.0) (flow inlet x.0) ≡ b → (b || false) ≡ false → bytes_eq (flow outlet x.0) (flow inlet x.0) ≡ false
              by false e none = e
              by true e none = let f : ⊥ = cc in absurd f

  pub specification-part : (stream component : List ℕ) → has_name streams stream ≡ true →
      has_name components component ≡ true → IsUnitPart p (flows components streams ++ rest) unit
      (specification unit stream component)
  specification-part stream component declared among = record {
    names = one-name (codes "spec") unit (record { name = dotted (codes "spec") unit; summands = times 1 (flow stream component) ∷ [] }) spec-word u refl;
    units = tt;
    words = tt;
    differ = tt;
    spelled = tt;
    stand = (
      record {
        there = (
          has-left (flows components streams) rest (flow stream component)
              (has-flow components streams stream component declared among),
          tt,
        );
        differ = (refl, tt);
        filled =
            (one-filled p (flow stream component) odd, tt);
      },
      tt,
    );
  }

  -- the flows of some streams, with symbols
  flows-there : (some : List (List ℕ)) → AllByRecursion (λ stream. has_name streams stream ≡ true) some →
      AllByRecursion (λ name. has_name (flows components streams ++ rest) name ≡ true) (flows components some)
  flows-there some declared =
      all-flat_map (λ stream. has_name streams stream ≡ true)
      (λ name. has_name (flows components streams ++ rest) name ≡ true)
      (λ stream. map (flow stream) components) some
      (λ stream is. all-map (λ component. has_name components component ≡ true)
      (λ name. has_name (flows components streams ++ rest) name ≡ true) (flow stream) components
      (λ component among. has-left (flows components streams) rest (flow stream component)
      (has-flow components streams stream component is among)) (all-own components)) declared

  flows-word : (some : List (List ℕ)) → AllByRecursion (λ name. has_name (codes "f" ∷ []) (word_of name) ≡ true) (flows components some)
  flows-word some =
      all-flat_map (λ stream. has_name some stream ≡ true) (λ name. has_name (codes "f" ∷ []) (word_of name) ≡ true)
      (λ stream. map (flow stream) components) some
      (λ stream is. all-map (λ component. has_name components component ≡ true)
      (λ name. has_name (codes "f" ∷ []) (word_of name) ≡ true) (flow stream) components
      (λ component among. has-self [] (codes "f") (word_of (flow stream component))
      (flow-word stream component)) (all-own components)) (all-own some)

  symbols-differ : (names : List (List ℕ)) → Differ names → Differ (unknowns_of (map open_at names))
  symbols-differ names differ = subst Differ (sym (map-map (λ summand. summand.unknown) open_at names ∙ ids names)) differ
    where
      ids : (names : List (List ℕ)) → map (λ name. name) names ≡ names
      ids [] = refl
      ids (name ∷ names) = ap (λ rest. name ∷ rest) (ids names)

  pub balance-part : (some : List (List ℕ)) → AllByRecursion (λ stream. has_name streams stream ≡ true) some →
      Differ some → has_name rest (dotted (codes "q") unit) ≡ true →
      IsUnitPart p (flows components streams ++ rest) unit (balance components unit some)
  balance-part some declared differ heat = record {
    names = one-name (codes "heat") unit (record {
      name = dotted (codes "heat") unit;
      summands =
          times 1 (dotted (codes "q") unit) ∷ map open_at (flows components some);
    }) heat-word u refl;
    units = (unit_of-own (codes "q") unit refl u.dotless, tt);
    words = (ap (λ name. bytes_eq name (codes "f")) (before-dotted (codes "q") unit refl), tt);
    differ = (refl, tt);
    spelled = (own-spelled (codes "q") unit q-word u, tt);
    stand = (
      record {
        there = (
          has-right (flows components streams) rest (dotted (codes "q") unit) heat,
          all-map
              (λ name. has_name (flows components streams ++ rest) name ≡ true)
              (λ summand. has_name (flows components streams ++ rest) summand.unknown ≡ true) open_at
              (flows components some) (λ name is. is) (flows-there some declared),
        );
        differ = (
          subst (λ names. has_name names (dotted (codes "q") unit) ≡ false) (sym (map-map (λ summand. summand.unknown) open_at (flows components some)) ∙ refl)
              (none-keyed word_of (codes "f" ∷ []) (map (λ name. name) (flows components some))
              (dotted (codes "q") unit) (all-map (λ name. has_name (codes "f" ∷ []) (word_of name) ≡ true)
              (λ name. has_name (codes "f" ∷ []) (word_of name) ≡ true) (λ name. name) (flows components some)
              (λ name is. is) (flows-word some))
              (ap (has_name (codes "f" ∷ [])) (before-dotted (codes "q") unit refl))),
          symbols-differ (flows components some) (flows-differ components some good apart (shorts some declared) differ),
        );
        filled = (
          one-filled p (dotted (codes "q") unit) odd,
          all-map
              (λ name. has_name (flows components streams ++ rest) name ≡ true) (IsFilledSummand p) open_at
              (flows components some) (λ name is. open-filled p name odd) (flows-there some declared),
        );
      },
      tt,
    );
  }

  pub relation-part : (names : List (List ℕ)) → AllByRecursion
      (λ name. has_name (flows components streams ++ rest) name ≡ true) names → Differ names →
      IsUnitPart p (flows components streams ++ rest) unit (relation unit names)
  relation-part names declared differ = record {
    names = one-name (codes "rel") unit (record { name = dotted (codes "rel") unit; summands = map open_at names }) rel-word u refl;
    units = tt;
    words = tt;
    differ = tt;
    spelled = tt;
    stand = (
      record {
        there = all-map (λ name. has_name (flows components streams ++ rest) name ≡ true)
            (λ summand. has_name (flows components streams ++ rest) summand.unknown ≡ true) open_at names
            (λ name is. is) declared;
        differ = symbols-differ names differ;
        filled = all-map (λ name. has_name (flows components streams ++ rest) name ≡ true)
            (IsFilledSummand p) open_at names (λ name is. open-filled p name odd) declared;
      },
      tt,
    );
  }
