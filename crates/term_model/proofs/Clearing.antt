-- Terms at places that are free of other terms.
use Rattle.std.proofs.Common.{◌≡◌, ℕ, Bool, true, false, ◌&&◌, List, [], ◌∷◌, ◌++◌, refl, sym, ap, subst, ◌∙◌, append_assoc, append-nil}
use Rattle.std.specs.List.{AllByRecursion}
use Rattle.std.specs.Str.{bytes_eq}
use Rattle.std.proofs.lemmas.List.Folds.{list_any-append}
use Rattle.std.proofs.lemmas.Slice.Eq.{bytes_eq-Decides}
use Rattle.term_model.specs.Putting.{AreFree, IsFree}
use Rattle.term_model.specs.Terms.{Term, stands_at}
use Rattle.term_model.proofs.Lists.{all-append}

pub bytes_eq-sym : (x y : List ℕ) → bytes_eq x y ≡ false → bytes_eq y x ≡ false
bytes_eq-sym x y other = by (bytes_eq y x) refl
  where
    by : (b : Bool) → bytes_eq y x ≡ b → bytes_eq y x ≡ false
    by false e = e
    by true e =
        let both : true ≡ false = sym ((bytes_eq-Decides x y).1 (sym ((bytes_eq-Decides y x).0 e))) ∙ other in
        let f : ⊥ = cc in absurd f

pub and_false : (a : Bool) → (a && false) ≡ false
and_false true = refl
and_false false = refl

-- terms at places that are free of some terms and, among others, of each other
pub free-split : (T B ts : List Term) → AllByRecursion (λ t. IsFree T t.equation t.unknown) ts → AreFree B ts → AreFree (T ++ B) ts
free-split T B [] apart free = tt
free-split T B (t ∷ ts) apart free = (
  list_any-append (stands_at t.equation t.unknown) T B ∙ rw (apart.0, free.0) refl,
  subst (λ before. AreFree before ts) (sym (append_assoc T B (t ∷ []))) (free-split T (B ++ t ∷ []) ts apart.1 free.1),
)

pub free-append : (B xs ys : List Term) → AreFree B xs → AreFree (B ++ xs) ys → AreFree B (xs ++ ys)
free-append B [] ys first second = subst (λ before. AreFree before ys) (append-nil B) second
free-append B (x ∷ xs) ys first second = (
  first.0,
  free-append (B ++ x ∷ []) xs ys first.1
      (subst (λ before. AreFree before ys) (sym (append_assoc B (x ∷ []) xs)) second),
)

-- a term stands at another place than another
abbrev pub Clear : Term → Term → Type 0
Clear x y = stands_at y.equation y.unknown x ≡ false

abbrev pub Clears : List Term → List Term → Type 0
Clears xs ys = AllByRecursion (λ y. AllByRecursion (λ x. Clear x y) xs) ys

pub free-all : (xs : List Term) (y : Term) → AllByRecursion (λ x. Clear x y) xs → IsFree xs y.equation y.unknown
free-all [] y all = refl
free-all (x ∷ xs) y all = rw (all.0) (free-all xs y all.1)

pub clears-free : (xs ys : List Term) → Clears xs ys → AllByRecursion (λ y. IsFree xs y.equation y.unknown) ys
clears-free xs [] all = tt
clears-free xs (y ∷ ys) all = (free-all xs y all.0, clears-free xs ys all.1)

pub joined : (xs ys : List Term) → AreFree [] xs → AreFree [] ys → Clears xs ys → AreFree [] (xs ++ ys)
joined xs ys first second clear = free-append [] xs ys first (subst (λ before. AreFree before ys) (append-nil xs)
    (free-split xs [] ys (clears-free xs ys clear) second))

pub clear-equation : (x y : Term) (e f : List ℕ) → x.equation ≡ e → y.equation ≡ f → bytes_eq f e ≡ false → Clear x y
clear-equation x y e f is_x is_y other = (λ t. bytes_eq (is_y t) (is_x t) && bytes_eq y.unknown x.unknown) ∙ ap (λ b. b && bytes_eq y.unknown x.unknown) other

pub clear-unknown : (x y : Term) (u v : List ℕ) → x.unknown ≡ u → y.unknown ≡ v → bytes_eq v u ≡ false → Clear x y
clear-unknown x y u v is_x is_y other = (λ t. bytes_eq y.equation x.equation && bytes_eq (is_y t) (is_x t))
    ∙ ap (λ b. bytes_eq y.equation x.equation && b) other ∙ and_false (bytes_eq y.equation x.equation)

pub clears-one : (P : Term → Type 0) (y : Term) → ((x : Term) → P x → Clear x y) → (xs : List Term) → AllByRecursion P xs → AllByRecursion (λ x. Clear x y) xs
clears-one P y clear [] all = tt
clears-one P y clear (x ∷ xs) all = (clear x all.0, clears-one P y clear xs all.1)

pub clears : (P Q : Term → Type 0) → ((x y : Term) → P x → Q y → Clear x y) → (xs ys : List Term) → AllByRecursion P xs → AllByRecursion Q ys → Clears xs ys
clears P Q clear xs [] first second = tt
clears P Q clear xs (y ∷ ys) first second = (clears-one P y (λ x is. clear x y is second.0) xs first, clears P Q clear xs ys first second.1)

-- more terms before, and more after
pub clears-both : (xs zs ys : List Term) → Clears xs ys → Clears zs ys → Clears (xs ++ zs) ys
clears-both xs zs [] first second = tt
clears-both xs zs (y ∷ ys) first second = (all-append (λ x. Clear x y) xs zs first.0 second.0, clears-both xs zs ys first.1 second.1)

pub clears-after : (xs ys zs : List Term) → Clears xs ys → Clears xs zs → Clears xs (ys ++ zs)
clears-after xs ys zs first second = all-append (λ y. AllByRecursion (λ x. Clear x y) xs) ys zs first second
