-- Things put last one by one: numbered ones, and pairs.
use Rattle.std.proofs.Common.{◌≡◌, ℕ, ◌+◌, ◌-◌, ◌<◌, List, [], ◌∷◌, ◌++◌, length, map, take, get_or, min, refl, sym, ap, ◌∙◌, arith, append_assoc}
use Rattle.std.specs.List.{enumerate_from, zip}
use Rattle.std.proofs.lemmas.List.{get_or-map, length-map, map-append, take-map, take_all, take_more}
use Rattle.std.proofs.lemmas.List.FromFn.{get_or-enumerate_from, length-enumerate_from}
use Rattle.std.proofs.lemmas.Slice.Zip.{get_or-zip, length-zip}
use Rattle.unit_equations.specs.Kinds.{but_last}

-- the next of some things, put last
pub next_one : {X Y : Type 0} (f : X → Y) (xs : List X) (old now new : List Y) (n m : ℕ) (x : X) → n < length xs → get_or xs n x ≡ x → m ≡ n + 1
    → now ≡ old ++ map f (take n xs) → new ≡ now ++ f x ∷ [] → new ≡ old ++ map f (take m xs)
next_one f xs old now new n m x within is more before put =
    put
    ∙ ap (λ front. front ++ f x ∷ []) before
    ∙ append_assoc old (map f (take n xs)) (f x ∷ [])
    ∙ ap (λ last. old ++ last) (sym (map-append f (take n xs) (x ∷ [])))
    ∙ ap (λ taken. old ++ map f taken) (ap (λ last. take n xs ++ last ∷ []) (sym is) ∙ sym (take_more xs n x within) ∙ ap (λ k. take k xs) (sym more))

-- the next of some pairs, put last
pub next_pair : {K V Y : Type 0} (f : K × V → Y) (ks : List K) (vs : List V) (old now new : List Y) (n m : ℕ)
    (k : K) (v : V) → n < length ks → n < length vs → get_or ks n k ≡ k → get_or vs n v ≡ v → m ≡ n + 1
    → now ≡ old ++ map f (take n (zip ks vs)) → new ≡ now ++ f (k, v) ∷ [] → new ≡ old ++ map f (take m (zip ks vs))
next_pair f ks vs old now new n m k v first second key value more before put =
    next_one f (zip ks vs) old now new n m (k, v) (omega (arith, length-zip ks vs, first, second))
    (get_or-zip ks vs n (k, v) first second ∙ (λ t. (key t, value t))) more before put

-- all pairs
pub all_pairs : {K V : Type 0} (ks : List K) (vs : List V) (n : ℕ) → n ≡ min (length ks) (length vs) → take n (zip ks vs) ≡ zip ks vs
all_pairs ks vs n all = take_all n (zip ks vs) (omega (arith, length-zip ks vs, all))

-- one of some things, as it is seen
module _ {A X : Type 0} (see : A → X) (items : List A) (n : ℕ) (item : A) (within : n < length items) (is : item ≡ get_or items n item) where
  pub seen-within : (xs : List X) → map see items ≡ xs → n < length xs
  seen-within xs all = omega (arith, within, length-map items see, ap length all)

  pub seen-is : (xs : List X) → map see items ≡ xs → get_or xs n (see item) ≡ see item
  seen-is xs all = ap (λ ys. get_or ys n (see item)) (sym all) ∙ get_or-map see items n item (see item) within ∙ ap see (sym is)

  -- and as it is numbered
  pub numbered-within : n < length (enumerate_from 1 (map see items))
  numbered-within = omega (arith, within, length-map items see, length-enumerate_from 1 (map see items))

  pub numbered-is : get_or (enumerate_from 1 (map see items)) n (n + 1, see item) ≡ (n + 1, see item)
  numbered-is =
      let number : 1 + n ≡ n + 1 = omega arith in
      get_or-enumerate_from 1 (map see items) n (n + 1, see item) (omega (arith, within, length-map items see))
      ∙ (λ t. (number t, seen-is (map see items) refl t))

-- all but the last of what is seen
pub but_last-seen : {A : Type 0} (see : A → List ℕ) (outlets items : List A) →
    items ≡ take (length outlets - 1) outlets → but_last (map see outlets) ≡ enumerate_from 1 (map see items)
but_last-seen see outlets items is =
    ap (λ n. enumerate_from 1 (take (n - 1) (map see outlets))) (length-map outlets see)
    ∙ ap (enumerate_from 1) (take-map see (length outlets - 1) outlets ∙ ap (map see) (sym is))
