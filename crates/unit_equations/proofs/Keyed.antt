-- Names that differ since keys of them do.
use Rattle.std.proofs.Common.{◌≡◌, ℕ, Bool, true, false, ◌||◌, List, [], ◌∷◌, map, refl, sym, ap, subst, ◌∙◌}
use Rattle.std.specs.List.{AllByRecursion, flat_map}
use Rattle.std.specs.Str.{bytes_eq}
use Rattle.std.proofs.lemmas.List.Concat.{flat_map-cons}
use Rattle.std.proofs.lemmas.Slice.Eq.{bytes_eq-Decides}
use Rattle.mixed_model.specs.Names.{has_name}
use Rattle.term_model.proofs.Lists.{Differ, all-append, differ-append}

-- a name whose key is none of those that the keys of others are among
pub none-keyed : (key : List ℕ → List ℕ) (keys names : List (List ℕ)) (name : List ℕ) →
    AllByRecursion (λ other. has_name keys (key other) ≡ true) names → has_name keys (key name) ≡ false →
    has_name names name ≡ false
none-keyed key keys [] name all new = refl
none-keyed key keys (other ∷ names) name all new = by (bytes_eq name other) refl (none-keyed key keys names name all.1 new)
  where
    by : (b : Bool) → bytes_eq name other ≡ b → has_name names name ≡ false → has_name (other ∷ names) name ≡ false
    by false e rest = rw e rest
    by true e rest =
        let same : key name ≡ key other = ap key ((bytes_eq-Decides name other).0 e) in
        let both : false ≡ true = sym new ∙ ap (has_name keys) same ∙ all.0 in
        let f : ⊥ = cc in absurd f

-- one more key to be among
pub has-more : (keys : List (List ℕ)) (key name : List ℕ) → has_name keys name ≡ true → has_name (key ∷ keys) name ≡ true
has-more keys key name there = by (bytes_eq name key)
  where
    by : (b : Bool) → (b || has_name keys name) ≡ true
    by true = refl
    by false = there

pub has-self : (keys : List (List ℕ)) (key name : List ℕ) → name ≡ key → has_name (key ∷ keys) name ≡ true
has-self keys key name same = rw ((bytes_eq-Decides name key).1 same) refl

-- what holds of each leads to something else
pub all-weaker : {X : Type 0} (P Q : X → Type 0) (xs : List X) → ((x : X) → P x → Q x) → AllByRecursion P xs → AllByRecursion Q xs
all-weaker P Q [] follows all = tt
all-weaker P Q (x ∷ xs) follows all = (follows x all.0, all-weaker P Q xs follows all.1)

pub all-both : {X : Type 0} (P Q : X → Type 0) (xs : List X) → AllByRecursion P xs → AllByRecursion Q xs → AllByRecursion (λ x. P x × Q x) xs
all-both P Q [] first second = tt
all-both P Q (x ∷ xs) first second = ((first.0, second.0), all-both P Q xs first.1 second.1)

-- each name of a list is among them
pub all-own : (names : List (List ℕ)) → AllByRecursion (λ name. has_name names name ≡ true) names
all-own [] = tt
all-own (name ∷ names) = (
  has-self names name name refl,
  all-weaker (λ other. has_name names other ≡ true)
      (λ other. has_name (name ∷ names) other ≡ true) names (λ other there. has-more names name other there)
      (all-own names),
)

-- names that some things give, of which each has the key of its thing
pub record GivesKeyed {X : Type 0} (key : List ℕ → List ℕ) (id : X → List ℕ) (given : X → List (List ℕ)) (x : X) : Type 0 where
  pub differ : Differ (given x)
  pub keys : AllByRecursion (λ name. key name ≡ id x) (given x)

-- all of them have keys of the things
pub keyed-all : {X : Type 0} (key : List ℕ → List ℕ) (id : X → List ℕ) (given : X → List (List ℕ)) (xs : List X) →
    AllByRecursion (GivesKeyed key id given) xs → AllByRecursion (λ name. has_name (map id xs) (key name) ≡ true)
    (flat_map given xs)
keyed-all key id given [] all = tt
keyed-all key id given (x ∷ xs) all =
    subst (AllByRecursion (λ name. has_name (map id (x ∷ xs)) (key name) ≡ true)) (sym (flat_map-cons given x xs))
    (all-append (λ name. has_name (map id (x ∷ xs)) (key name) ≡ true) (given x) (flat_map given xs)
    (all-weaker (λ name. key name ≡ id x) (λ name. has_name (map id (x ∷ xs)) (key name) ≡ true) (given x)
    (λ name same. has-self (map id xs) (id x) (key name) same) all.0.keys)
    (all-weaker (λ name. has_name (map id xs) (key name) ≡ true)
    (λ name. has_name (map id (x ∷ xs)) (key name) ≡ true) (flat_map given xs)
    (λ name there. has-more (map id xs) (id x) (key name) there) (keyed-all key id given xs all.1)))

-- and they differ where the things do
pub keyed-differ : {X : Type 0} (key : List ℕ → List ℕ) (id : X → List ℕ) (given : X → List (List ℕ)) (xs : List X) →
    AllByRecursion (GivesKeyed key id given) xs → Differ (map id xs) → Differ (flat_map given xs)
keyed-differ key id given [] all differ = tt
keyed-differ key id given (x ∷ xs) all differ =
    subst Differ (sym (flat_map-cons given x xs))
    (differ-append (given x) (flat_map given xs) all.0.differ (keyed-differ key id given xs all.1 differ.1)
    (all-weaker (λ name. key name ≡ id x) (λ name. has_name (flat_map given xs) name ≡ false) (given x)
    (λ name same. none-keyed key (map id xs) (flat_map given xs) name (keyed-all key id given xs all.1)
    (ap (has_name (map id xs)) same ∙ differ.0)) all.0.keys))

-- names that are made one by one have the keys of what they are made of
pub made-keys : {X : Type 0} (key : List ℕ → List ℕ) (id make : X → List ℕ) (xs : List X) →
    AllByRecursion (λ x. key (make x) ≡ id x) xs → AllByRecursion (λ name. has_name (map id xs) (key name) ≡ true)
    (map make xs)
made-keys key id make [] keys = tt
made-keys key id make (x ∷ xs) keys = (
  has-self (map id xs) (id x) (key (make x)) keys.0,
  all-weaker (λ name. has_name (map id xs) (key name) ≡ true)
      (λ name. has_name (map id (x ∷ xs)) (key name) ≡ true) (map make xs)
      (λ name there. has-more (map id xs) (id x) (key name) there) (made-keys key id make xs keys.1),
)

pub map-differ : {X : Type 0} (key : List ℕ → List ℕ) (id make : X → List ℕ) (xs : List X) →
    AllByRecursion (λ x. key (make x) ≡ id x) xs → Differ (map id xs) → Differ (map make xs)
map-differ key id make [] all differ = tt
map-differ key id make (x ∷ xs) all differ = (
  none-keyed key (map id xs) (map make xs) (make x) (made-keys key id make xs all.1)
      (ap (has_name (map id xs)) all.0 ∙ differ.0),
  map-differ key id make xs all.1 differ.1,
)
