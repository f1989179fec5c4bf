-- Names that stand among others.
use Rattle.std.proofs.Common.{◌≡◌, ℕ, Bool, true, false, cond, ◌||◌, List, [], ◌∷◌, ◌++◌, map, fold, refl, ap, subst, ◌∙◌}
use Rattle.std.specs.Str.{bytes_eq}
use Rattle.std.proofs.Math.Bool.{or-true}
use Rattle.std.proofs.lemmas.List.Folds.{list_any-append}
use Rattle.std.proofs.lemmas.Slice.Eq.{bytes_eq-Decides}
use Rattle.mixed_model.specs.Names.{has_name, see}
use Rattle.mixed_model.proofs.NameLaws.{bytes_eq-refl}

-- a name among some, behind a word
pub has-map : (f : List ℕ → List ℕ) (names : List (List ℕ)) (name : List ℕ) → has_name names name ≡ true → has_name (map f names) (f name) ≡ true
has-map f [] name there = let g : ⊥ = cc in absurd g
has-map f (other ∷ names) name there = by (bytes_eq name other) refl there (has-map f names name)
  where
    by : (b : Bool) → bytes_eq name other ≡ b → (b || has_name names name) ≡ true →
        (has_name names name ≡ true → has_name (map f names) (f name) ≡ true) → has_name (map f (other ∷ names))
        (f name) ≡ true
    by true e there more = ap (λ b. b || has_name (map f names) (f name)) ((bytes_eq-Decides (f name) (f other)).1 (ap f ((bytes_eq-Decides name other).0 e)))
    by false e there more = (λ t. bytes_eq (f name) (f other) || more there t) ∙ or-true (bytes_eq (f name) (f other))

pub has-left : (xs ys : List (List ℕ)) (name : List ℕ) → has_name xs name ≡ true → has_name (xs ++ ys) name ≡ true
has-left xs ys name there = list_any-append (bytes_eq name) xs ys ∙ ap (λ b. b || has_name ys name) there

pub has-right : (xs ys : List (List ℕ)) (name : List ℕ) → has_name ys name ≡ true → has_name (xs ++ ys) name ≡ true
has-right xs ys name there = list_any-append (bytes_eq name) xs ys ∙ ap (λ b. has_name xs name || b) there ∙ or-true (has_name xs name)

-- a name that stands among some is seen
pub seen-before : (seen names : List (List ℕ)) (name : List ℕ) → has_name seen name ≡ true → has_name (fold see seen names) name ≡ true
seen-before seen [] name there = there
seen-before seen (new ∷ names) name there = seen-before (see seen new) names name (by (has_name seen new))
  where
    by : (b : Bool) → has_name (cond b seen (seen ++ new ∷ [])) name ≡ true
    by true = there
    by false = has-left seen (new ∷ []) name there

pub seen-now : (seen : List (List ℕ)) (name : List ℕ) → has_name (see seen name) name ≡ true
seen-now seen name = by (has_name seen name) refl
  where
    by : (b : Bool) → has_name seen name ≡ b → has_name (cond b seen (seen ++ name ∷ [])) name ≡ true
    by true e = e
    by false e = has-right seen (name ∷ []) name (ap (λ b. b || false) (bytes_eq-refl name))

pub seen-there : (seen names : List (List ℕ)) (name : List ℕ) → has_name names name ≡ true → has_name (fold see seen names) name ≡ true
seen-there seen [] name there = let g : ⊥ = cc in absurd g
seen-there seen (new ∷ names) name there = by (bytes_eq name new) refl there (seen-there (see seen new) names name)
  where
    by : (b : Bool) → bytes_eq name new ≡ b → (b || has_name names name) ≡ true →
        (has_name names name ≡ true → has_name (fold see (see seen new) names) name ≡ true) →
        has_name (fold see seen (new ∷ names)) name ≡ true
    by true e there more = seen-before (see seen new) names name
        (subst (λ other. has_name (see seen other) name ≡ true) ((bytes_eq-Decides name new).0 e)
        (seen-now seen name))
    by false e there more = more there
