-- The names that things have of their own: each of a thing's words, a point and its name.
use Rattle.std.proofs.Common.{◌≡◌, ℕ, ◌<◌, Bool, true, false, ◌||◌, List, [], ◌∷◌, ◌++◌, map, length, get_or, zero, suc, refl, sym, ap, subst, ◌∙◌, arith}
use Rattle.std.specs.List.{AllByRecursion, after_first, before_first, list_all}
use Rattle.std.specs.Str.{bytes_eq}
use Rattle.std.proofs.lemmas.List.Concat.{flat_map-cons}
use Rattle.std.proofs.lemmas.List.Folds.{list_any-append}
use Rattle.line_lexer.specs.Numbers.{is_point}
use Rattle.mixed_model.specs.Names.{has_name}
use Rattle.term_model.specs.Terms.{dotted, own_names_of}
use Rattle.term_model.proofs.DottedNames.{Apart, Dotted, MayStand, apart-among, not_among}
use Rattle.term_model.proofs.Labels.{IsPart, IsWord, dotted-label, good-words, is_good}
use Rattle.term_model.proofs.Lists.{Differ, all-flat_map, all-map, differ-append}
use Rattle.term_model.proofs.NamesAmong.{has-left, has-map, has-right}

-- what a thing has of its own
abbrev own_of : {X : Type 0} → (X → List ℕ) → (X → List (List ℕ)) → X → List (List ℕ)
own_of name words thing = map (λ word. dotted word (name thing)) (words thing)

-- a name that follows no thing's name, by what is behind its point
pub own-new : {X : Type 0} (name : X → List ℕ) (words : X → List (List ℕ)) → ((thing : X) → Dotted (words thing)) →
    (things : List X) (x behind : List ℕ) → after_first is_point x ≡ behind →
    has_name (map name things) behind ≡ false → has_name (own_names_of name words things) x ≡ false
own-new name words good [] x behind is new = refl
own-new name words good (thing ∷ things) x behind is new = by (bytes_eq behind (name thing)) refl new (λ rest. own-new name words good things x behind is rest)
  where
    by : (b : Bool) → bytes_eq behind (name thing) ≡ b → (b || has_name (map name things) behind) ≡ false →
        (has_name (map name things) behind ≡ false → has_name (own_names_of name words things) x ≡ false) →
        has_name (own_names_of name words (thing ∷ things)) x ≡ false
    by true p none more = let f : ⊥ = cc in absurd f
    by false p none more =
        ap (λ names. has_name names x) (flat_map-cons (own_of name words) thing things)
        ∙ list_any-append (bytes_eq x) (own_of name words thing) (own_names_of name words things)
        ∙ ap (λ b. b || has_name (own_names_of name words things) x) (not_among x behind (name thing) (words thing) (good thing) is p)
        ∙ more none

-- and one with another word than all of theirs
pub own-apart : {X : Type 0} (name : X → List ℕ) (words : X → List (List ℕ)) (word : List ℕ) →
    ((thing : X) → Apart word (words thing)) → (things : List X) (x : List ℕ) → before_first is_point x ≡ word →
    has_name (own_names_of name words things) x ≡ false
own-apart name words word good [] x is = refl
own-apart name words word good (thing ∷ things) x is =
    ap (λ names. has_name names x) (flat_map-cons (own_of name words) thing things)
    ∙ list_any-append (bytes_eq x) (own_of name words thing) (own_names_of name words things)
    ∙ ap (λ b. b || has_name (own_names_of name words things) x) (apart-among word x (name thing) (words thing) (good thing) is)
    ∙ own-apart name words word good things x is

-- a new thing's names are none of those of others
words-new : {X : Type 0} (name : X → List ℕ) (words : X → List (List ℕ)) → ((thing : X) → Dotted (words thing)) →
    (things : List X) (new : List ℕ) (some : List (List ℕ)) → Dotted some → has_name (map name things) new ≡ false →
    AllByRecursion (λ x. has_name (own_names_of name words things) x ≡ false) (map (λ word. dotted word new) some)
words-new name words good things new [] dots none = tt
words-new name words good things new (word ∷ some) dots none =
    (own-new name words good things (dotted word new) new (dots.0 new) none, words-new name words good things new some dots.1 none)

-- so the names of things differ where the things' names do, and the words of each
pub own-differ : {X : Type 0} (name : X → List ℕ) (words : X → List (List ℕ)) → ((thing : X) → Dotted (words thing)) →
    ((thing : X) → Differ (map (λ word. dotted word (name thing)) (words thing))) → (things : List X) →
    Differ (map name things) → Differ (own_names_of name words things)
own-differ name words good apart [] differ = tt
own-differ name words good apart (thing ∷ things) differ =
    subst Differ (sym (flat_map-cons (own_of name words) thing things))
    (differ-append (own_of name words thing) (own_names_of name words things) (apart thing)
    (own-differ name words good apart things differ.1)
    (words-new name words good things (name thing) (words thing) (good thing) differ.0))

-- they may stand in a model
pub own-labels : {X : Type 0} (P : X → Type 0) (name : X → List ℕ) (words : X → List (List ℕ)) →
    ((thing : X) → list_all is_good (words thing) ≡ true) → ((thing : X) → P thing → IsPart (name thing)) →
    (things : List X) → AllByRecursion P things → AllByRecursion MayStand (own_names_of name words things)
own-labels P name words good part things all =
    all-flat_map P MayStand (own_of name words) things
    (λ thing is. all-map IsWord MayStand (λ word. dotted word (name thing)) (words thing)
    (λ word fine. dotted-label word (name thing) fine (part thing is))
    (good-words (words thing) (good thing)))
    all

-- and a thing's names are among them
pub own-there : {X : Type 0} (name : X → List ℕ) (words : X → List (List ℕ)) (things : List X) (i : ℕ) (thing : X)
    (word : List ℕ) → i < length things → thing ≡ get_or things i thing → has_name (words thing) word ≡ true →
    has_name (own_names_of name words things) (dotted word (name thing)) ≡ true
own-there name words [] i thing word within is there = absurd (omega arith)
own-there name words (first ∷ things) zero thing word within is there =
    ap (λ names. has_name names (dotted word (name thing))) (flat_map-cons (own_of name words) first things)
    ∙ subst (λ other. has_name (own_of name words other ++ own_names_of name words things) (dotted word (name thing)) ≡ true) is
    (has-left (own_of name words thing) (own_names_of name words things) (dotted word (name thing))
    (has-map (λ word. dotted word (name thing)) (words thing) word there))
own-there name words (first ∷ things) (suc i) thing word within is there =
    ap (λ names. has_name names (dotted word (name thing))) (flat_map-cons (own_of name words) first things)
    ∙ has-right (own_of name words first) (own_names_of name words things) (dotted word (name thing))
    (own-there name words things i thing word (omega arith) is there)
