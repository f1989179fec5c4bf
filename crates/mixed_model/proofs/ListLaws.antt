-- A list without one of its items, and a list of copies.
use Rattle.std.proofs.Common.{◌≡◌, ℕ, zero, suc, ◌+◌, ◌<◌, Bool, false, List, [], ◌∷◌, length, map, refl, sym, ap, subst, arith, ⊎_elim}
use Rattle.std.specs.Prelude.{All}
use Rattle.std.specs.List.{AllZip, IsDistinct, remove}
use Rattle.std.proofs.lemmas.Bool.{cases_lt}
use Rattle.std.proofs.lemmas.List.Edits.{length-remove, get_or-remove_below, get_or-remove_above}
use Rattle.std.proofs.lemmas.List.Quantifiers.{all_pairs_remove}
use Rattle.std.proofs.lemmas.Map.Keys.{apart_from_distinct, IsDistinct-from_apart}

-- what holds of each item holds of those that are left
pub All-remove : {X : Type 0} (P : X → Type 0) (xs : List X) (i : ℕ) → i < length xs → All P xs → All P (remove xs i)
All-remove P xs i within all k d at = ⊎_elim
    (λ below. subst P (sym (get_or-remove_below xs i d k below within)) (all k d (omega (arith, within, below))))
    (λ above. subst P (sym (get_or-remove_above xs i d k above within)) (all (k + 1) d (omega (arith, at, length-remove xs i within))))
    (cases_lt k i)

-- items that differ still do
pub IsDistinct-remove : {X : Type 0} (eq : X → X → Bool) (xs : List X) (i : ℕ) → i < length xs → IsDistinct eq xs → IsDistinct eq (remove xs i)
IsDistinct-remove eq xs i within distinct =
    IsDistinct-from_apart eq (remove xs i) (all_pairs_remove (λ x y. eq x y ≡ false) xs i within
    (λ j k d less at. apart_from_distinct eq xs j k d distinct less at))

-- what is made of each item
pub map-remove : {X Y : Type 0} (f : X → Y) (xs : List X) (i : ℕ) → map f (remove xs i) ≡ remove (map f xs) i
map-remove f [] zero = refl
map-remove f [] (suc i) = refl
map-remove f (x ∷ xs) zero = refl
map-remove f (x ∷ xs) (suc i) = ap (λ rest. f x ∷ rest) (map-remove f xs i)

-- what is made of each item is the same of copies that keep it
pub map-copied : {X Y : Type 0} (f : X → Y) (Copy : X → X → Type 0) → ((x y : X) → Copy x y → f y ≡ f x) → (xs ys : List X) →
    AllZip Copy xs ys → map f ys ≡ map f xs
map-copied f Copy keeps [] [] copied = refl
map-copied f Copy keeps [] (y ∷ ys) copied = absurd copied
map-copied f Copy keeps (x ∷ xs) [] copied = absurd copied
map-copied f Copy keeps (x ∷ xs) (y ∷ ys) copied = λ i. keeps x y copied.0 i ∷ map-copied f Copy keeps xs ys copied.1 i
