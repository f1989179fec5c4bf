-- An order by falling cost, from a list that was sorted.
use Rattle.std.proofs.Common.{◌≡◌, ◌≢◌, ℕ, zero, suc, ◌+◌, ◌-◌, ◌^◌, ◌<◌, ◌≤◌, Bool, true, false, cond, eqb, ltb, ◌&&◌, ◌||◌, ◌⊎◌, inl, inr}
use Rattle.std.proofs.Common.{List, [], ◌∷◌, ◌++◌, length, map, slice_index, slice_set, get_or, refl, ap, sym, subst, ◌∙◌, arith}
use Rattle.std.proofs.lemmas.Bool.Decides.{nat_tests}
use Rattle.std.proofs.lemmas.List.{get_or-map, get_or-set_other, get_or-set_same, get_or_append_left, get_or_push, length-map, length-set, length_push}
use Rattle.std.proofs.lemmas.List.Edits.{length-swap, swap_is}
use Rattle.std.proofs.lemmas.List.Sorted.{All-permutation, Contains-permutation, IsNonDecreasingBy-from_sort, IsPermutation-keeps}
use Rattle.std.proofs.lemmas.List.Sorted.{ties_still_rise}
use Rattle.std.specs.List.{All, Contains, swap}
use Rattle.std.specs.List.Sorted.{IsPermutation, IsSortedByKey, IsStableByKey}
use Rattle.std.specs.Ordering.{is_lt, nat_cmp}
use Rattle.residue_theory.proofs.SetLaws.{differ, lt_cases}
use Rattle.residue_theory.proofs.SumLaws.{nat_cases}
use Rattle.residue_theory.specs.Sets.{everything, has}
use Rattle.mixed_matrices.specs.Models.{MixedMatrix}
use Rattle.equation_matroid_laws.specs.GreedyChoices.{IsGreedyChoice, by_cost}
use Rattle.equation_matroid_laws.proofs.Costs.{cost-line}
use Rattle.exchange_graph.specs.Marks.{members_of}
use Rattle.equation_choice.specs.Choices.{IsAlong}
use Rattle.equation_choice.specs.Lists.{AreMarkedBelow}
use Rattle.equation_choice.specs.Prices.{ArePriced}
use Rattle.equation_choice.specs.declared.repair.Priced.{Priced}

-- no two items have one number
abbrev pub HaveOwnNumbers : List Priced → Type 0
HaveOwnNumbers list = (i j : ℕ) (d : Priced) → i < length list → j < length list → (get_or list i d).equation ≡ (get_or list j d).equation → i ≡ j

-- where the item at i of an exchange comes from
abbrev from : ℕ → ℕ → ℕ → ℕ
from a b i = cond (eqb i b) a (cond (eqb i a) b i)

from-own : (a b i j : ℕ) → from a b i ≡ from a b j → i ≡ j
from-own a b i j e = grind (arith, nat_tests)

from-below : (n a b i : ℕ) → a < n → b < n → i < n → from a b i < n
from-below n a b i al bl il = grind (arith, nat_tests)

same-test : (i : ℕ) → eqb i i ≡ true
same-test i = grind (arith, nat_tests)

other-test : (i j : ℕ) → i ≢ j → eqb i j ≡ false
other-test i j ne = grind (arith, nat_tests)

from-second : (a b : ℕ) → a ≡ from a b b
from-second a b = ap (λ c. cond c a (cond (eqb b a) b b)) (sym (same-test b))

from-first : (a b : ℕ) → a ≢ b → b ≡ from a b a
from-first a b ne = ap (λ c. cond c b a) (sym (same-test a)) ∙ ap (λ c. cond c a (cond (eqb a a) b a)) (sym (other-test a b ne))

from-other : (a b i : ℕ) → i ≢ a → i ≢ b → i ≡ from a b i
from-other a b i na nb = ap (λ c. cond c b i) (sym (other-test i a na)) ∙ ap (λ c. cond c a (cond (eqb i a) b i)) (sym (other-test i b nb))

swapped-at : (l : List Priced) (a b i : ℕ) (d : Priced) → a < length l → b < length l → i < length l → get_or (swap l a b) i d ≡ get_or l (from a b i) d
swapped-at l a b i d al bl il = ap (λ xs. get_or xs i d) (sym (swap_is l a b d al bl)) ∙ at (nat_cases i b) (nat_cases i a)
  where
    at : (i ≡ b) ⊎ (i ≢ b) → (i ≡ a) ⊎ (i ≢ a) → get_or (slice_set (slice_set l a (get_or l b d)) b (get_or l a d)) i d ≡ get_or l (from a b i) d
    at (inl e) _ = subst (λ k. get_or (slice_set (slice_set l a (get_or l b d)) b (get_or l a d)) k d ≡ get_or l (from a b k) d) (sym e)
        (get_or-set_same (slice_set l a (get_or l b d)) b (get_or l a d) d (omega (arith, bl, length-set l a (get_or l b d)))
        ∙ ap (λ k. get_or l k d) (from-second a b))
    at (inr nb) (inl e) = subst (λ k. get_or (slice_set (slice_set l a (get_or l b d)) b (get_or l a d)) k d ≡ get_or l (from a b k) d) (sym e)
        (get_or-set_other (slice_set l a (get_or l b d)) b a (get_or l a d) d (λ q. nb (e ∙ q))
        ∙ get_or-set_same l a (get_or l b d) d al ∙ ap (λ k. get_or l k d) (from-first a b (λ q. nb (e ∙ q))))
    at (inr nb) (inr na) = get_or-set_other (slice_set l a (get_or l b d)) b i (get_or l a d) d nb
        ∙ get_or-set_other l a i (get_or l b d) d na ∙ ap (λ k. get_or l k d) (from-other a b i na nb)

own-swapped : (l : List Priced) (a b : ℕ) → a < length l → b < length l → HaveOwnNumbers l → HaveOwnNumbers (swap l a b)
own-swapped l a b al bl own i j d il jl e =
    let ib : i < length l = omega (arith, il, length-swap l a b) in
    let jb : j < length l = omega (arith, jl, length-swap l a b) in
    from-own a b i j (own (from a b i) (from a b j) d (from-below (length l) a b i al bl ib) (from-below (length l) a b j al bl jb)
    (sym (ap (λ (x : Priced). x.equation) (swapped-at l a b i d al bl ib)) ∙ e ∙ ap (λ (x : Priced). x.equation) (swapped-at l a b j d al bl jb)))

abbrev pub key : Priced → ℕ
key x = 2 ^ 64 - 1 - x.cost

module _ (costs : List ℕ) (xs ys : List Priced) (n : ℕ) (priced : ArePriced costs n xs) (moved : IsPermutation xs ys)
    (sorted : IsSortedByKey (λ (x : Priced). 2 ^ 64 - 1 - x.cost) nat_cmp ys)
    (stable : IsStableByKey (λ (x : Priced). 2 ^ 64 - 1 - x.cost) nat_cmp xs ys) where
  abbrev Right : Priced → Type 0
  Right x = (x.equation < n) × (x.cost ≡ slice_index costs x.equation) × (x.cost < 2 ^ 64)

  right-first : All Right xs
  right-first k d l =
      let low : k < n = omega (arith, l, priced.count) in
      let at : (get_or xs k d).equation ≡ k = priced.number k d low in (
        subst (λ m. m < n) (sym at) low,
        priced.cost k d low ∙ ap (slice_index costs) (sym at),
        priced.below k d low,
      )

  right : All Right ys
  right = All-permutation Right xs ys moved right-first

  own-first : HaveOwnNumbers xs
  own-first i j d il jl e = sym (priced.number i d (omega (arith, il, priced.count))) ∙ e ∙ priced.number j d (omega (arith, jl, priced.count))

  own : HaveOwnNumbers ys
  own = IsPermutation-keeps xs HaveOwnNumbers own-first own-swapped ys moved

  -- the list was rising
  not-less : (x y : ℕ) → x ≤ y → is_lt (nat_cmp y x) ≡ false
  not-less x y l = grind (arith, nat_tests)

  rising-first : IsSortedByKey (λ (x : Priced). x.equation) nat_cmp xs
  rising-first k d low l = not-less (get_or xs k d).equation (get_or xs (k + 1) d).equation
      (omega (arith, priced.number k d (omega (arith, l, priced.count)), priced.number (k + 1) d (omega (arith, l, priced.count))))

  -- of two items with one key the first has the least number
  ties-rise : (d : Priced) (i m : ℕ) → i + m < length ys → key (get_or ys i d) ≡ key (get_or ys (i + m) d) →
      (get_or ys i d).equation ≤ (get_or ys (i + m) d).equation
  ties-rise d i zero l e = subst (λ k. (get_or ys i d).equation ≤ (get_or ys k d).equation) (let q : i ≡ i + 0 = omega arith in q) (omega arith)
  ties-rise d i (suc m) l e =
      let falls = IsNonDecreasingBy-from_sort key ys sorted in
      let next : i + suc m ≡ i + m + 1 = omega arith in
      let below : i + m + 1 < length ys = subst (λ k. k < length ys) next l in
      let first : key (get_or ys i d) ≤ key (get_or ys (i + m) d) = falls i (i + m) d (omega arith) (omega (arith, below)) in
      let last : key (get_or ys (i + m) d) ≤ key (get_or ys (i + m + 1) d) = falls (i + m) (i + m + 1) d (omega arith) below in
      let same : key (get_or ys i d) ≡ key (get_or ys (i + m + 1) d) = subst (λ k. key (get_or ys i d) ≡ key (get_or ys k d)) next e in
      let before : (get_or ys i d).equation ≤ (get_or ys (i + m) d).equation = ties-rise d i m (omega (arith, below)) (omega (arith, first, last, same)) in
      let step : (get_or ys (i + m) d).equation ≤ (get_or ys (i + m + 1) d).equation =
      ties_still_rise (λ (x : Priced). x.equation) key xs ys rising-first stable (i + m) d below (omega (arith, first, last, same)) in
      subst (λ k. (get_or ys i d).equation ≤ (get_or ys k d).equation) (sym next) (omega (arith, before, step))

  -- the numbers
  abbrev order : List ℕ
  order = map (λ (x : Priced). x.equation) ys

  first-item : Priced
  first-item = record { cost = 0; equation = 0 }

  at : (i : ℕ) (d : Priced) → i < length ys → slice_index order i ≡ (get_or ys i d).equation
  at i d l = get_or-map (λ (x : Priced). x.equation) ys i d 0 l

  count : length order ≡ length ys
  count = length-map ys (λ (x : Priced). x.equation)

  comes-first : (ci cj i j : ℕ) → cj ≤ ci → (cj ≡ ci → i ≤ j) → i ≢ j → ltb cj ci || (eqb cj ci && ltb i j) ≡ true
  comes-first ci cj i j le tie ne = elim (lt_cases cj ci) [
    | inl l ↦ less ci cj i j l
    | inr g ↦ let e : cj ≡ ci = omega (arith, le, g) in let t : i ≤ j = tie e in equal ci cj i j e (omega (arith, t, ne))
  ]
    where
      less : (ci cj i j : ℕ) → cj < ci → ltb cj ci || (eqb cj ci && ltb i j) ≡ true
      less ci cj i j l = grind (arith, nat_tests)

      equal : (ci cj i j : ℕ) → cj ≡ ci → i < j → ltb cj ci || (eqb cj ci && ltb i j) ≡ true
      equal ci cj i j e l = grind (arith, nat_tests)

  pub sorted-below : All (λ equation. equation < n) order
  sorted-below k d l = let low : k < length ys = omega (arith, l, count) in
      subst (λ x. x < n) (sym (get_or-map (λ (x : Priced). x.equation) ys k first-item d low)) (right k first-item low).0

  pub sorted-along : IsAlong n (by_cost (slice_index costs)) order
  sorted-along = record { line = cost-line (slice_index costs); rising = rising; each = each }
    where
      rising : (i j : ℕ) → i < j → j < length order → by_cost (slice_index costs) (slice_index order i) (slice_index order j) ≡ true
      rising i j less l =
          let jl : j < length ys = omega (arith, l, count) in
          let il : i < length ys = omega (arith, less, jl) in
          let x = get_or ys i first-item in
          let y = get_or ys j first-item in
          let (xl, xc, xb) = right i first-item il in
          let (yl, yc, yb) = right j first-item jl in
          let falls : key x ≤ key y = IsNonDecreasingBy-from_sort key ys sorted i j first-item (omega (arith, less)) jl in
          subst (λ a. by_cost (slice_index costs) a (slice_index order j) ≡ true) (sym (at i first-item il))
          (subst (λ b. by_cost (slice_index costs) x.equation b ≡ true) (sym (at j first-item jl))
          (comes-first (slice_index costs x.equation) (slice_index costs y.equation) x.equation y.equation
          (omega (arith, falls, xc, yc, xb, yb))
          (λ e. tied i j less il jl (omega (arith, xc, yc, e)))
          (λ e. absurd (let q : i ≡ j = own i j first-item il jl e in omega (arith, q, less)))))
        where
          tied : (i j : ℕ) → i < j → i < length ys → j < length ys → key (get_or ys i first-item) ≡ key (get_or ys j first-item) →
              (get_or ys i first-item).equation ≤ (get_or ys j first-item).equation
          tied i j less il jl e = let q : i + (j - i) ≡ j = omega (arith, less) in
              subst (λ k. (get_or ys i first-item).equation ≤ (get_or ys k first-item).equation) q
              (ties-rise first-item i (j - i) (omega (arith, q, jl)) (subst (λ k. key (get_or ys i first-item) ≡ key (get_or ys k first-item)) (sym q) e))

      each : (e : ℕ) → e < n → (i : ℕ) × (i < length order) × (slice_index order i ≡ e)
      each e el =
          let x = get_or xs e first-item in
          let there : Contains xs x = (e, omega (arith, el, priced.count), get_or-default xs e x first-item (omega (arith, el, priced.count))) in
          let (i, il, is) = Contains-permutation xs ys x moved there in
          (i, omega (arith, il, count), at i x il ∙ ap (λ (z : Priced). z.equation) is ∙ priced.number e first-item el)
        where
          get_or-default : (xs : List Priced) (k : ℕ) (d c : Priced) → k < length xs → get_or xs k d ≡ get_or xs k c
          get_or-default [] k d c l = absurd (omega (arith, l))
          get_or-default (z ∷ zs) zero d c l = refl
          get_or-default (z ∷ zs) (suc k) d c l = get_or-default zs k d c (omega (arith, l))

-- one equation more
pub priced-more : (costs : List ℕ) (n : ℕ) (list : List Priced) → ArePriced costs n list → (x : Priced) → x.equation ≡ n → x.cost ≡ slice_index costs n →
    x.cost < 2 ^ 64 → ArePriced costs (n + 1) (list ++ x ∷ [])
priced-more costs n list are x number cost below = record {
  count = length_push list x ∙ ap (λ k. k + 1) are.count;
  number = λ k d l. elim (nat_cases k n) [
    | inl e ↦ ap (λ (z : Priced). z.equation) (get_or_push list x d k (are.count ∙ sym e)) ∙ number ∙ sym e
    | inr ne ↦ ap (λ (z : Priced). z.equation) (get_or_append_left list (x ∷ []) d k (omega (arith, l, ne, are.count))) ∙ are.number k d (omega (arith, l, ne))
  ];
  cost = λ k d l. elim (nat_cases k n) [
    | inl e ↦ ap (λ (z : Priced). z.cost) (get_or_push list x d k (are.count ∙ sym e)) ∙ cost ∙ ap (slice_index costs) (sym e)
    | inr ne ↦ ap (λ (z : Priced). z.cost) (get_or_append_left list (x ∷ []) d k (omega (arith, l, ne, are.count))) ∙ are.cost k d (omega (arith, l, ne))
  ];
  below = λ k d l. elim (nat_cases k n) [
    | inl e ↦ subst (λ (z : Priced). z.cost < 2 ^ 64) (sym (get_or_push list x d k (are.count ∙ sym e))) below
    | inr ne ↦ subst (λ (z : Priced). z.cost < 2 ^ 64) (sym (get_or_append_left list (x ∷ []) d k (omega (arith, l, ne, are.count))))
        (are.below k d (omega (arith, l, ne)))
  ];
}

pub priced-none : (costs : List ℕ) → ArePriced costs 0 []
priced-none costs = record {
  count = refl;
  number = λ k d l. absurd (omega (arith, l));
  cost = λ k d l. absurd (omega (arith, l));
  below = λ k d l. absurd (omega (arith, l));
}

-- the same choice, told by a list
pub choice-listed : (p : ℕ) (M : MixedMatrix) (before : ℕ → ℕ → Bool) (marks : List Bool) (list : List ℕ) → AreMarkedBelow (members_of marks) M.rows list →
    IsGreedyChoice p M before everything (members_of marks) → IsGreedyChoice p M before everything (has list)
choice-listed p M before marks list are choice = record {
  inside = λ j jl h. refl;
  kept = λ e el xe. let (r, s, R, S, q) = choice.kept e el xe in (r, s, R, S, same e el (members_of marks e) refl ∙ q);
}
  where
    same : (e : ℕ) → e < M.rows → (b : Bool) → members_of marks e ≡ b → has list e ≡ members_of marks e
    same e el true h = (are.exact e).1 (el, h) ∙ sym h
    same e el false h = off (has list e) refl ∙ sym h
      where
        off : (b : Bool) → has list e ≡ b → has list e ≡ false
        off false g = g
        off true g = absurd (differ h ((are.exact e).0 g).1)
