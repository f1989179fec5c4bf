-- Lists of names that differ, and what holds of each element.
use Rattle.std.proofs.Common.{◌≡◌, ℕ, All, Bool, true, false, cond, ◌||◌, List, [], ◌∷◌, ◌++◌, map, filter, fold, refl, sym, subst, ◌∙◌, arith}
use Rattle.std.specs.List.{AllByRecursion, IsDistinct, flat_map}
use Rattle.std.specs.Str.{bytes_eq}
use Rattle.std.proofs.lemmas.List.Concat.{flat_map-cons}
use Rattle.std.proofs.lemmas.List.Elements.{All-cons, All-head, All-tail}
use Rattle.std.proofs.lemmas.List.Folds.{list_any-append}
use Rattle.std.proofs.lemmas.Map.Keys.{IsDistinct-cons, IsDistinct-head, IsDistinct-tail}
use Rattle.std.proofs.lemmas.Slice.Eq.{bytes_eq-Decides}
use Rattle.mixed_model.specs.Names.{has_name, see}

pub all-append : {X : Type 0} (P : X → Type 0) (xs ys : List X) → AllByRecursion P xs → AllByRecursion P ys → AllByRecursion P (xs ++ ys)
all-append P [] ys first second = second
all-append P (x ∷ xs) ys first second = (first.0, all-append P xs ys first.1 second)

pub all-map : {X Y : Type 0} (P : X → Type 0) (Q : Y → Type 0) (f : X → Y) (xs : List X) → ((x : X) → P x → Q (f x)) →
    AllByRecursion P xs → AllByRecursion Q (map f xs)
all-map P Q f [] follows all = tt
all-map P Q f (x ∷ xs) follows all = (follows x all.0, all-map P Q f xs follows all.1)

pub all-flat_map : {X Y : Type 0} (P : X → Type 0) (Q : Y → Type 0) (f : X → List Y) (xs : List X) →
    ((x : X) → P x → AllByRecursion Q (f x)) → AllByRecursion P xs → AllByRecursion Q (flat_map f xs)
all-flat_map P Q f [] follows all = tt
all-flat_map P Q f (x ∷ xs) follows all = subst (AllByRecursion Q) (sym (flat_map-cons f x xs))
    (all-append Q (f x) (flat_map f xs) (follows x all.0) (all-flat_map P Q f xs follows all.1))

pub all-filter : {X : Type 0} (P : X → Type 0) (test : X → Bool) (xs : List X) → AllByRecursion P xs → AllByRecursion P (filter test xs)
all-filter P test [] all = tt
all-filter P test (x ∷ xs) all = by (test x) (all-filter P test xs all.1)
  where
    by : (b : Bool) → AllByRecursion P (filter test xs) → AllByRecursion P (cond b (x ∷ filter test xs) (filter test xs))
    by true rest = (all.0, rest)
    by false rest = rest

pub all-see : (P : List ℕ → Type 0) (seen names : List (List ℕ)) → AllByRecursion P seen → AllByRecursion P names → AllByRecursion P (fold see seen names)
all-see P seen [] before all = before
all-see P seen (name ∷ names) before all = all-see P (see seen name) names (by (has_name seen name)) all.1
  where
    by : (b : Bool) → AllByRecursion P (cond b seen (seen ++ name ∷ []))
    by true = before
    by false = all-append P seen (name ∷ []) before (all.0, tt)

-- no name is one after it
abbrev pub Differ : List (List ℕ) → Type 0
Differ [] = Unit {0}
Differ (name ∷ names) = (has_name names name ≡ false) × Differ names

differs-all : (name : List ℕ) (names : List (List ℕ)) → has_name names name ≡ false → AllByRecursion (λ other. bytes_eq name other ≡ false) names
differs-all name [] none = tt
differs-all name (other ∷ names) none = by (bytes_eq name other) refl none (differs-all name names)
  where
    by : (b : Bool) → bytes_eq name other ≡ b → (b || has_name names name) ≡ false →
        (has_name names name ≡ false → AllByRecursion (λ other. bytes_eq name other ≡ false) names) →
        AllByRecursion (λ other. bytes_eq name other ≡ false) (other ∷ names)
    by true e none more = let f : ⊥ = cc in absurd f
    by false e none more = (e, more none)

all-differs : (name : List ℕ) (names : List (List ℕ)) → AllByRecursion (λ other. bytes_eq name other ≡ false) names → has_name names name ≡ false
all-differs name [] all = refl
all-differs name (other ∷ names) all = rw (all.0) (all-differs name names all.1)

pub differ-distinct : (names : List (List ℕ)) → Differ names → IsDistinct bytes_eq names
unfolding IsDistinct
differ-distinct [] differ = tt
differ-distinct (name ∷ names) differ = IsDistinct-cons bytes_eq name names (differs-all name names differ.0) (differ-distinct names differ.1)

pub distinct-differ : (names : List (List ℕ)) → IsDistinct bytes_eq names → Differ names
distinct-differ [] distinct = tt
distinct-differ (name ∷ names) distinct = (
  all-differs name names
      (IsDistinct-head bytes_eq name names distinct),
  distinct-differ names
      (IsDistinct-tail bytes_eq name names distinct),
)

-- two lists, of which no name of the first is in the second
pub differ-append : (xs ys : List (List ℕ)) → Differ xs → Differ ys → AllByRecursion (λ x. has_name ys x ≡ false) xs → Differ (xs ++ ys)
differ-append [] ys first second apart = second
differ-append (x ∷ xs) ys first second apart =
    (list_any-append (bytes_eq x) xs ys ∙ rw (first.0, apart.0) refl, differ-append xs ys first.1 second apart.1)

-- a name that is put last and is new
pub differ-last : (seen : List (List ℕ)) (name : List ℕ) → Differ seen → has_name seen name ≡ false → Differ (seen ++ name ∷ [])
differ-last seen name differ new = differ-append seen (name ∷ []) differ (refl, tt) (others seen (differs-all name seen new))
  where
    others : (seen : List (List ℕ)) → AllByRecursion (λ other. bytes_eq name other ≡ false) seen → AllByRecursion (λ x. has_name (name ∷ []) x ≡ false) seen
    others [] all = tt
    others (x ∷ seen) all = (by (bytes_eq x name) refl, others seen all.1)
      where
        by : (b : Bool) → bytes_eq x name ≡ b → has_name (name ∷ []) x ≡ false
        by false e = rw e refl
        by true e =
            let same : x ≡ name = (bytes_eq-Decides x name).0 e in
            let both : bytes_eq name x ≡ true = (bytes_eq-Decides name x).1 (sym same) in
            let clash : true ≡ false = sym both ∙ all.0 in
            let f : ⊥ = cc in absurd f

pub differ-see : (seen names : List (List ℕ)) → Differ seen → Differ (fold see seen names)
differ-see seen [] differ = differ
differ-see seen (name ∷ names) differ = differ-see (see seen name) names (by (has_name seen name) refl)
  where
    by : (b : Bool) → has_name seen name ≡ b → Differ (cond b seen (seen ++ name ∷ []))
    by true e = differ
    by false e = differ-last seen name differ e

pub all_at : {X : Type 0} (P : X → Type 0) (xs : List X) → AllByRecursion P xs → All P xs
all_at P [] all = λ i d within. absurd (omega arith)
all_at P (x ∷ xs) all = All-cons P x xs all.0 (all_at P xs all.1)

pub at_all : {X : Type 0} (P : X → Type 0) (xs : List X) → All P xs → AllByRecursion P xs
at_all P [] all = tt
at_all P (x ∷ xs) all = (All-head P x xs all, at_all P xs (All-tail P x xs all))
