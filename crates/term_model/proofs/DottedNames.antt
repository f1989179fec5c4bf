-- Names behind a word and a point: they differ where the names or the words do.
use Rattle.std.proofs.Common.{◌≡◌, ℕ, Bool, true, false, ◌||◌, List, [], ◌∷◌, map, refl, sym, ap, ◌∙◌, IsTrue, ◌&&◌}
use Rattle.std.specs.List.{after_first, before_first, AllByRecursion}
use Rattle.std.specs.Str.{bytes_eq}
use Rattle.std.proofs.lemmas.Slice.Eq.{bytes_eq-Decides}
use Rattle.line_lexer.specs.Numbers.{is_point}
use Rattle.mixed_model.specs.Names.{has_name, is_label}
use Rattle.term_model.specs.Terms.{dotted}
use Rattle.term_model.proofs.Labels.{IsPart, is_good, good-words, dotted-label}
use Rattle.term_model.proofs.Lists.{all-map, Differ}

-- what follows the point of a dotted name is the name, for these words
abbrev pub Dotted : List (List ℕ) → Type 0
Dotted [] = Unit {0}
Dotted (word ∷ words) = ((name : List ℕ) → after_first is_point (dotted word name) ≡ name) × Dotted words

-- names differ where what follows their points does
pub differ : (x y name other : List ℕ) → after_first is_point x ≡ name → after_first is_point y ≡ other → bytes_eq name other ≡ false → bytes_eq x y ≡ false
differ x y name other names others not_same = by (bytes_eq x y) refl
  where
    by : (b : Bool) → bytes_eq x y ≡ b → bytes_eq x y ≡ false
    by false p = p
    by true p =
        let same : x ≡ y = (bytes_eq-Decides x y).0 p in
        let told : name ≡ other = sym names ∙ ap (after_first is_point) same ∙ others in
        let both : true ≡ false = sym ((bytes_eq-Decides name other).1 told) ∙ not_same in absurd cc

pub not_among : (x name other : List ℕ) (words : List (List ℕ)) → Dotted words → after_first is_point x ≡ name →
    bytes_eq name other ≡ false → has_name (map (λ word. dotted word other) words) x ≡ false
not_among x name other [] good names not_same = refl
not_among x name other (word ∷ words) good names not_same =
    rw (differ x (dotted word other) name other names (good.0 other) not_same) (not_among x name other words good.1 names not_same)

-- a name that is new is so behind a word
pub dotted-new : (word : List ℕ) → ((name : List ℕ) → after_first is_point (dotted word name) ≡ name) →
    (names : List (List ℕ)) (name : List ℕ) → has_name names name ≡ false → has_name (map (dotted word) names)
    (dotted word name) ≡ false
dotted-new word good [] name new = refl
dotted-new word good (other ∷ names) name new = by (bytes_eq name other) refl new (λ rest. dotted-new word good names name rest)
  where
    by : (b : Bool) → bytes_eq name other ≡ b → (b || has_name names name) ≡ false →
        (has_name names name ≡ false → has_name (map (dotted word) names) (dotted word name) ≡ false) →
        has_name (map (dotted word) (other ∷ names)) (dotted word name) ≡ false
    by true p none more = let f : ⊥ = cc in absurd f
    by false p none more = rw (differ (dotted word name) (dotted word other) name other (good name) (good other) p) (more none)

-- these words, before names, tell other words than this one
abbrev pub Apart : List ℕ → List (List ℕ) → Type 0
Apart word [] = Unit {0}
Apart word (other ∷ words) = ((name : List ℕ) → bytes_eq word (before_first is_point (dotted other name)) ≡ false) × Apart word words

pub apart : (word x y : List ℕ) → before_first is_point x ≡ word → bytes_eq word (before_first is_point y) ≡ false → bytes_eq x y ≡ false
apart word x y is other = by (bytes_eq x y) refl
  where
    by : (b : Bool) → bytes_eq x y ≡ b → bytes_eq x y ≡ false
    by false p = p
    by true p =
        let told : word ≡ before_first is_point y = sym is ∙ ap (before_first is_point) ((bytes_eq-Decides x y).0 p) in
        let both : true ≡ false = sym ((bytes_eq-Decides word (before_first is_point y)).1 told) ∙ other in absurd cc

pub apart-among : (word x other : List ℕ) (words : List (List ℕ)) → Apart word words → before_first is_point x ≡ word →
    has_name (map (λ word. dotted word other) words) x ≡ false
apart-among word x other [] good is = refl
apart-among word x other (next ∷ words) good is =
    rw (apart word x (dotted next other) is (good.0 other)) (apart-among word x other words good.1 is)

-- names that differ do so behind a word
pub dotted-differ : (word : List ℕ) → ((name : List ℕ) → after_first is_point (dotted word name) ≡ name) →
    (names : List (List ℕ)) → Differ names → Differ (map (dotted word) names)
dotted-differ word good [] differ = tt
dotted-differ word good (name ∷ names) differ = (dotted-new word good names name differ.0, dotted-differ word good names differ.1)

-- and are none of others of which none has this word
pub dotted-apart : (word : List ℕ) (others : List (List ℕ)) →
    ((name : List ℕ) → has_name others (dotted word name) ≡ false) → (names : List (List ℕ)) →
    AllByRecursion (λ x. has_name others x ≡ false) (map (dotted word) names)
dotted-apart word others apart [] = tt
dotted-apart word others apart (name ∷ names) = (apart name, dotted-apart word others apart names)

-- the names may stand in a model
abbrev pub MayStand : List ℕ → Type 0
MayStand name = IsTrue (is_label name)

-- parts behind a good word may
pub dotted-labels : (word : List ℕ) → is_good word ≡ true → (P : List ℕ → Type 0) →
    ((name : List ℕ) → P name → IsPart name) → (names : List (List ℕ)) → AllByRecursion P names →
    AllByRecursion MayStand (map (dotted word) names)
dotted-labels word good P part names all =
    all-map P MayStand (dotted word) names (λ name is. dotted-label word name (good-words (word ∷ []) (ap (λ b. b && true) good)).0 (part name is)) all
