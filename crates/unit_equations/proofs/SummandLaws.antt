-- What stands in a unit's equations: at unknowns that are there and differ.
use Rattle.std.proofs.Common.{◌≡◌, ℕ, ◌-◌, ◌%◌, ◌<◌, Bool, true, false, ◌||◌, List, [], ◌∷◌, ◌++◌, map, codes, nat_eq}
use Rattle.std.proofs.Common.{if◌then◌else◌, refl, sym, ap, subst, ◌∙◌, arith}
use Rattle.std.specs.List.{AllByRecursion}
use Rattle.std.specs.Str.{bytes_eq}
use Rattle.std.proofs.Math.Nat.{mod-lt}
use Rattle.std.proofs.lemmas.Bool.{eqb-false}
use Rattle.std.proofs.lemmas.List.Concat.{flat_map-cons}
use Rattle.std.proofs.lemmas.List.Folds.{list_any-append}
use Rattle.std.proofs.lemmas.Simd.{map-map}
use Rattle.std.proofs.lemmas.Slice.Eq.{bytes_eq-Decides}
use Rattle.mixed_model.specs.Names.{has_name}
use Rattle.term_model.specs.Terms.{dotted}
use Rattle.term_model.proofs.Lists.{Differ, all-map, all_at, differ-distinct}
use Rattle.term_model.proofs.NamesAmong.{has-left, has-right}
use Rattle.unit_equations.specs.Adding.{AreSummands, IsFilledSummand}
use Rattle.unit_equations.specs.Kinds.{each_times, flow, flows}
use Rattle.unit_equations.specs.Parts.{Summand, less, open_at, times}
use Rattle.unit_equations.proofs.Dots.{behind-longer, before-dotless, before-dotted, component_of, is_dotless, unit_of, unit_of-longer, word_of}
use Rattle.unit_equations.proofs.Keyed.{GivesKeyed, all-weaker, has-self, keyed-differ, map-differ}
use Rattle.unit_equations.proofs.Spelled.{IsShort}

abbrev pub unknowns_of : List Summand → List (List ℕ)
unknowns_of summands = map (λ summand. summand.unknown) summands

-- the same as AreSummands, element by element
pub record Stand (p : ℕ) (unknowns : List (List ℕ)) (summands : List Summand) : Type 0 where
  pub there : AllByRecursion (λ summand. has_name unknowns summand.unknown ≡ true) summands
  pub differ : Differ (unknowns_of summands)
  pub filled : AllByRecursion (IsFilledSummand p) summands

pub stand-summands : (p : ℕ) (unknowns : List (List ℕ)) (summands : List Summand) → Stand p unknowns summands → AreSummands p unknowns summands
stand-summands p unknowns summands stand = record {
  there = all_at (λ summand. has_name unknowns summand.unknown ≡ true) summands stand.there;
  distinct = differ-distinct (unknowns_of summands) stand.differ;
  filled = all_at (IsFilledSummand p) summands stand.filled;
}

-- constants and symbols
pub one-filled : (p : ℕ) (unknown : List ℕ) → 2 < p → IsFilledSummand p (times 1 unknown)
one-filled p unknown odd = record { below = omega (arith, odd); constant = λ no. λ zero. let f : ⊥ = cc in f; symbol = λ is. let f : ⊥ = cc in absurd f }

pub minus-filled : (p : ℕ) (unknown : List ℕ) → 2 < p → IsFilledSummand p (times (p - 1) unknown)
minus-filled p unknown odd = record {
  below = omega (arith, odd);
  constant =
      λ no zero. absurd (omega (arith, odd, zero));
  symbol = λ is. let f : ⊥ = cc in absurd f;
}

pub open-filled : (p : ℕ) (unknown : List ℕ) → 2 < p → IsFilledSummand p (open_at unknown)
open-filled p unknown odd = record { below = omega (arith, odd); constant = λ no. let f : ⊥ = cc in absurd f; symbol = λ is. refl }

-- minus a number: nothing, or a constant that is not 0
module _ (p number : ℕ) (unknown : List ℕ) where
  pub less-filled : 2 < p → AllByRecursion (IsFilledSummand p) (less p number unknown)
  less-filled odd = by (nat_eq ((p - number) % p) 0) refl
    where
      by : (b : Bool) → nat_eq ((p - number) % p) 0 ≡ b → AllByRecursion (IsFilledSummand p) (if b then [] else times ((p - number) % p) unknown ∷ [])
      by true e = tt
      by false e = (
        record {
          below = mod-lt (p - number) (omega (arith, odd));
          constant = λ no zero. eqb-false
              ((p - number) % p) 0 e zero;
          symbol = λ is. let f : ⊥ = cc in absurd f;
        },
        tt,
      )

  pub less-there : (unknowns : List (List ℕ)) → has_name unknowns unknown ≡ true →
      AllByRecursion (λ summand. has_name unknowns summand.unknown ≡ true) (less p number unknown)
  less-there unknowns there = by (nat_eq ((p - number) % p) 0)
    where
      by : (b : Bool) → AllByRecursion (λ summand. has_name unknowns summand.unknown ≡ true) (if b then [] else times ((p - number) % p) unknown ∷ [])
      by true = tt
      by false = (there, tt)

  pub less-differ : Differ (unknowns_of (less p number unknown))
  less-differ = by (nat_eq ((p - number) % p) 0)
    where
      by : (b : Bool) → Differ (unknowns_of (if b then [] else times ((p - number) % p) unknown ∷ []))
      by true = tt
      by false = (refl, tt)

  pub less-new : (other : List ℕ) → bytes_eq other unknown ≡ false → has_name (unknowns_of (less p number unknown)) other ≡ false
  less-new other apart = by (nat_eq ((p - number) % p) 0)
    where
      by : (b : Bool) → has_name (unknowns_of (if b then [] else times ((p - number) % p) unknown ∷ [])) other ≡ false
      by true = refl
      by false = rw apart refl

-- flows: of a stream that is declared, and a component
has-made : (make : List ℕ → List ℕ) (names : List (List ℕ)) (name : List ℕ) → has_name names name ≡ true → has_name (map make names) (make name) ≡ true
has-made make [] name there = there
has-made make (other ∷ names) name there = by (bytes_eq name other) refl there (has-made make names name)
  where
    by : (b : Bool) → bytes_eq name other ≡ b → (b || has_name names name) ≡ true →
        (has_name names name ≡ true → has_name (map make names) (make name) ≡ true) →
        has_name (map make (other ∷ names)) (make name) ≡ true
    by true e here more = has-self (map make names) (make other) (make name) (ap make ((bytes_eq-Decides name other).0 e))
    by false e here more = list_any-append (bytes_eq (make name)) (make other ∷ []) (map make names)
        ∙ or_more (bytes_eq (make name) (make other) || false) (more here)
      where
        or_more : (a : Bool) → has_name (map make names) (make name) ≡ true → (a || has_name (map make names) (make name)) ≡ true
        or_more true e = refl
        or_more false e = e

pub has-flow : (components streams : List (List ℕ)) (stream component : List ℕ) → has_name streams stream ≡ true →
    has_name components component ≡ true → has_name (flows components streams) (flow stream component) ≡ true
has-flow components [] stream component there among = there
has-flow components (other ∷ streams) stream component there among =
    ap (λ names. has_name names (flow stream component)) (flat_map-cons (λ stream. map (flow stream) components) other streams)
    ∙ by (bytes_eq stream other) refl there (λ rest. has-flow components streams stream component rest among)
  where
    by : (b : Bool) → bytes_eq stream other ≡ b → (b || has_name streams stream) ≡ true →
        (has_name streams stream ≡ true → has_name (flows components streams) (flow stream component) ≡ true) →
        has_name (map (flow other) components ++ flows components streams) (flow stream component) ≡ true
    by true e here more =
        let same : stream ≡ other = (bytes_eq-Decides stream other).0 e in
        has-left (map (flow other) components) (flows components streams) (flow stream component)
        (ap (λ s. has_name (map (flow other) components) (flow s component)) same ∙ has-made (flow other) components component among)
    by false e here more = has-right (map (flow other) components) (flows components streams) (flow stream component) (more here)

-- the stream and the component that a flow tells
pub flow-stream : (stream component : List ℕ) → is_dotless stream ≡ true → unit_of (flow stream component) ≡ stream
flow-stream stream component s = unit_of-longer (codes "f") stream component refl s

pub flow-component : (stream component : List ℕ) → is_dotless stream ≡ true → is_dotless component ≡ true → component_of (flow stream component) ≡ component
flow-component stream component s c = ap word_of (behind-longer (codes "f") stream component refl s) ∙ before-dotless component c

pub flow-word : (stream component : List ℕ) → word_of (flow stream component) ≡ codes "f"
flow-word stream component = before-dotted (codes "f") (dotted stream component) refl

-- flows of different streams differ
pub flows-at-differ : (component : List ℕ) (streams : List (List ℕ)) → AllByRecursion IsShort streams →
    Differ streams → Differ (map (λ stream. flow stream component) streams)
flows-at-differ component streams short differ =
    map-differ unit_of (λ name. name) (λ stream. flow stream component) streams
    (all-weaker IsShort (λ stream. unit_of (flow stream component) ≡ stream) streams (λ stream is. flow-stream stream component is.dotless) short)
    (subst Differ (sym (ids streams)) differ)
  where
    ids : (names : List (List ℕ)) → map (λ name. name) names ≡ names
    ids [] = refl
    ids (name ∷ names) = ap (λ rest. name ∷ rest) (ids names)

-- all flows of some streams differ
pub flows-differ : (components streams : List (List ℕ)) → AllByRecursion IsShort components → Differ components →
    AllByRecursion IsShort streams → Differ streams → Differ (flows components streams)
flows-differ components streams good apart short differ =
    keyed-differ unit_of (λ name. name) (λ stream. map (flow stream) components) streams
    (all-weaker IsShort (GivesKeyed unit_of (λ name. name) (λ stream. map (flow stream) components)) streams (λ stream is. record {
      differ = map-differ component_of (λ name. name) (flow stream) components
          (all-weaker IsShort (λ component. component_of (flow stream component) ≡ component) components
          (λ component c. flow-component stream component is.dotless c.dotless) good)
          (subst Differ (sym (ids components)) apart);
      keys = all-map IsShort (λ name. unit_of name ≡ stream) (flow stream) components (λ component c. flow-stream stream component is.dotless) good;
    }) short)
    (subst Differ (sym (ids streams)) differ)
  where
    ids : (names : List (List ℕ)) → map (λ name. name) names ≡ names
    ids [] = refl
    ids (name ∷ names) = ap (λ rest. name ∷ rest) (ids names)

-- a stream's flow, and those of others: one is the sum of the rest
module _ (p : ℕ) (odd : 2 < p) (components streams own : List (List ℕ)) (component : List ℕ) (among : has_name components component ≡ true) where
  flow-there : (stream : List ℕ) → has_name streams stream ≡ true → has_name (flows components streams ++ own) (flow stream component) ≡ true
  flow-there stream there = has-left (flows components streams) own (flow stream component) (has-flow components streams stream component there among)

  pub sum-stands : (first : List ℕ) (others : List (List ℕ)) →
      AllByRecursion (λ stream. has_name streams stream ≡ true) (first ∷ others) →
      AllByRecursion IsShort (first ∷ others) → Differ (first ∷ others)
      → Stand p (flows components streams ++ own) (times 1 (flow first component) ∷ each_times (p - 1) others component)
  sum-stands first others there short differ = record {
    there = (
      flow-there first there.0,
      all-map (λ stream. has_name streams stream ≡ true)
          (λ summand. has_name (flows components streams ++ own) summand.unknown ≡ true)
          (λ stream. times (p - 1) (flow stream component)) others flow-there there.1,
    );
    differ = subst (λ names. Differ (flow first component ∷ names))
        (sym (map-map (λ summand. summand.unknown) (λ stream. times (p - 1) (flow stream component)) others))
        (flows-at-differ component (first ∷ others) short differ);
    filled = (
      one-filled p (flow first component) odd,
      all-map (λ stream. has_name streams stream ≡ true)
          (IsFilledSummand p) (λ stream. times (p - 1) (flow stream component)) others
          (λ stream t. minus-filled p (flow stream component) odd) there.1,
    );
  }

  -- two streams
  module _ (first second : List ℕ) (there : AllByRecursion (λ stream. has_name streams stream ≡ true)
      (first ∷ second ∷ [])) (short : AllByRecursion IsShort (first ∷ second ∷ []))
      (differ : Differ (first ∷ second ∷ [])) where
    two-differ : Differ (flow first component ∷ flow second component ∷ [])
    two-differ = flows-at-differ component (first ∷ second ∷ []) short differ

    pub open-stands : Stand p (flows components streams ++ own) (open_at (flow first component) ∷ open_at (flow second component) ∷ [])
    open-stands = record {
      there = (flow-there first there.0, (flow-there second there.1.0, tt));
      differ = two-differ;
      filled = (open-filled p (flow first component) odd, (open-filled p (flow second component) odd, tt));
    }

    pub share-stands : (number : ℕ) → Stand p (flows components streams ++ own) (times 1 (flow first component) ∷ less p number (flow second component))
    share-stands number = record {
      there = (flow-there first there.0, less-there p number (flow second component) (flows components streams ++ own) (flow-there second there.1.0));
      differ = (
        less-new p number (flow second component) (flow first component)
            (or_none (bytes_eq (flow first component) (flow second component)) two-differ.0),
        less-differ p number
            (flow second component),
      );
      filled = (one-filled p (flow first component) odd, less-filled p number (flow second component) odd);
    }
      where
        or_none : (b : Bool) → (b || false) ≡ false → b ≡ false
        or_none false e = refl
        or_none true e = let f : ⊥ = cc in absurd f
