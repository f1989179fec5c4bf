-- What a write to one of some lists leaves.
use Rattle.std.proofs.Common.{◌≡◌, ◌≢◌, ℕ, ◌+◌, ◌<◌, ◌≤◌, true, false, List, [], ◌∷◌, ◌++◌, length, get_or, slice_set, map, sym, ◌∙◌, ap}
use Rattle.std.proofs.Common.{subst, ◌⊎◌, inl, inr, arith}
use Rattle.std.proofs.lemmas.List.{get_or-map, map-set, get_or-set_same, get_or-set_other, length-set, length-map}
use Rattle.std.specs.List.Sorted.{IsStrictlyIncreasing}
use Rattle.smallvec.specs.SmallVec.{SmallVec, HasRoomFor}
use Rattle.sparse_t.specs.Columns.{list_items_at, capacity_at, HasRoom, HasSameItems, IsEntered}
use Rattle.sparse_t.proofs.ListLaws.{nat_cases, lt_cases, has-at, has-member, rises}

module _ {B : Type 0} (f : SmallVec ℕ → B) (none : B) where
  part-read : (lists : List (SmallVec ℕ)) (x : ℕ) (v : SmallVec ℕ) → x < length lists → v ≡ get_or lists x v → get_or (map f lists) x none ≡ f v
  part-read lists x v l e = get_or-map f lists x v none l ∙ ap f (sym e)

  part-same : (lists : List (SmallVec ℕ)) (x : ℕ) (w : SmallVec ℕ) → x < length lists → get_or (map f (slice_set lists x w)) x none ≡ f w
  part-same lists x w l = ap (λ ys. get_or ys x none) (map-set f lists x w) ∙ get_or-set_same (map f lists) x (f w) none (omega (arith, length-map lists f))

  part-other : (lists : List (SmallVec ℕ)) (x j : ℕ) (w : SmallVec ℕ) → j ≢ x → get_or (map f (slice_set lists x w)) j none ≡ get_or (map f lists) j none
  part-other lists x j w ne = ap (λ ys. get_or ys j none) (map-set f lists x w) ∙ get_or-set_other (map f lists) x j (f w) none ne

pub items-read : (lists : List (SmallVec ℕ)) (x : ℕ) (v : SmallVec ℕ) → x < length lists → v ≡ get_or lists x v → list_items_at lists x ≡ v.items
items-read lists x v l e = part-read (λ list. list.items) [] lists x v l e

pub items-same : (lists : List (SmallVec ℕ)) (x : ℕ) (w : SmallVec ℕ) → x < length lists → list_items_at (slice_set lists x w) x ≡ w.items
items-same lists x w l = part-same (λ list. list.items) [] lists x w l

pub items-other : (lists : List (SmallVec ℕ)) (x j : ℕ) (w : SmallVec ℕ) → j ≢ x → list_items_at (slice_set lists x w) j ≡ list_items_at lists j
items-other lists x j w ne = part-other (λ list. list.items) [] lists x j w ne

pub capacity-read : (lists : List (SmallVec ℕ)) (x : ℕ) (v : SmallVec ℕ) → x < length lists → v ≡ get_or lists x v → capacity_at lists x ≡ v.capacity
capacity-read lists x v l e = part-read (λ list. list.capacity) 0 lists x v l e

pub capacity-same : (lists : List (SmallVec ℕ)) (x : ℕ) (w : SmallVec ℕ) → x < length lists → capacity_at (slice_set lists x w) x ≡ w.capacity
capacity-same lists x w l = part-same (λ list. list.capacity) 0 lists x w l

pub capacity-other : (lists : List (SmallVec ℕ)) (x j : ℕ) (w : SmallVec ℕ) → j ≢ x → capacity_at (slice_set lists x w) j ≡ capacity_at lists j
capacity-other lists x j w ne = part-other (λ list. list.capacity) 0 lists x j w ne

-- a list at x is put in the place of v
module _ (lists : List (SmallVec ℕ)) (x : ℕ) (v w : SmallVec ℕ) (l : x < length lists) (e : v ≡ get_or lists x v) where
  -- one that holds the same
  pub same-step : (first : List (SmallVec ℕ)) → w.items ≡ v.items → HasSameItems first lists → HasSameItems first (slice_set lists x w)
  same-step first kept S = record {
    count = length-set lists x w ∙ S.count;
    items = λ j jl. elim (nat_cases j x) [
      | inl q ↦ subst (λ y. list_items_at (slice_set lists x w) y ≡ list_items_at first y) (sym q)
          (items-same lists x w l ∙ (kept ∙ (sym (items-read lists x v l e) ∙ S.items x (omega (arith, q)))))
      | inr ne ↦ items-other lists x j w ne ∙ S.items j jl
    ];
  }

  -- one that holds the same and has room
  pub room-step : (columns : List ℕ) (k : ℕ) → get_or columns k 0 ≡ x → HasRoomFor w 1 → HasRoom lists columns k → HasRoom (slice_set lists x w) columns (k + 1)
  room-step columns k at room R i il = elim (nat_cases (get_or columns i 0) x) [
    | inl q ↦ subst (λ y. length (list_items_at (slice_set lists x w) y) + 1 ≤ capacity_at (slice_set lists x w) y) (sym q)
        (omega (arith, ap length (items-same lists x w l), capacity-same lists x w l, room))
    | inr ne ↦ omega (arith, ap length (items-other lists x (get_or columns i 0) w ne), capacity-other lists x (get_or columns i 0) w ne, R i (early i il ne))
  ]
    where
      early : (i : ℕ) → i < k + 1 → get_or columns i 0 ≢ x → i < k
      early i il ne = elim (nat_cases i k) [ inl q ↦ absurd (ne (subst (λ y. get_or columns y 0 ≡ x) (sym q) at)) | inr apart ↦ omega arith ]

  -- one that holds one number more
  module _ (first : List (SmallVec ℕ)) (columns : List ℕ) (row k : ℕ) (up : IsStrictlyIncreasing columns)
      (kl : k < length columns) (at : get_or columns k 0 ≡ x) (more : w.items ≡ v.items ++ row ∷ [])
      (others : (j : ℕ) → ((i : ℕ) → i < k → get_or columns i 0 ≢ j) → list_items_at lists j ≡ list_items_at first j) where
    apart : (i : ℕ) → i < k → get_or columns i 0 ≢ x
    apart i il q = omega (arith, rises columns up i k il kl)

    pub entered-step : ((i : ℕ) → i < k → list_items_at lists (get_or columns i 0) ≡ list_items_at first (get_or columns i 0) ++ row ∷ []) →
        (i : ℕ) → i < k + 1 → list_items_at (slice_set lists x w) (get_or columns i 0) ≡ list_items_at first (get_or columns i 0) ++ row ∷ []
    entered-step entered i il = go (lt_cases i k)
      where
        go : (i < k) ⊎ (k ≤ i) → list_items_at (slice_set lists x w) (get_or columns i 0) ≡ list_items_at first (get_or columns i 0) ++ row ∷ []
        go (inl less) = items-other lists x (get_or columns i 0) w (apart i less) ∙ entered i less
        go (inr ge) = let here : i ≡ k = omega arith in
            subst (λ y. list_items_at (slice_set lists x w) y ≡ list_items_at first y ++ row ∷ []) (sym (ap (λ y. get_or columns y 0) here ∙ at))
            (items-same lists x w l ∙ (more ∙ ap (λ ys. ys ++ row ∷ []) (sym (items-read lists x v l e) ∙ others x apart)))

    pub others-step : (j : ℕ) → ((i : ℕ) → i < k + 1 → get_or columns i 0 ≢ j) → list_items_at (slice_set lists x w) j ≡ list_items_at first j
    others-step j none = items-other lists x j w (λ q. none k (omega arith) (at ∙ sym q)) ∙ others j (λ i il. none i (omega arith))

  pub capacities-step : (first : List (SmallVec ℕ)) → w.capacity ≡ v.capacity →
      ((j : ℕ) → capacity_at lists j ≡ capacity_at first j) → (j : ℕ) →
      capacity_at (slice_set lists x w) j ≡ capacity_at first j
  capacities-step first kept same j = elim (nat_cases j x) [
    | inl q ↦ subst (λ y. capacity_at (slice_set lists x w) y ≡ capacity_at first y) (sym q)
        (capacity-same lists x w l ∙ (kept ∙ (sym (capacity-read lists x v l e) ∙ same x)))
    | inr ne ↦ capacity-other lists x j w ne ∙ same j
  ]

-- the next list has room
pub room-here : (first lists : List (SmallVec ℕ)) (columns : List ℕ) (k x : ℕ) (v : SmallVec ℕ) → x < length lists →
    v ≡ get_or lists x v → IsStrictlyIncreasing columns → k < length columns → get_or columns k 0 ≡ x →
    HasRoom first columns (length columns) →
    ((j : ℕ) → ((i : ℕ) → i < k → get_or columns i 0 ≢ j) → list_items_at lists j ≡ list_items_at first j) →
    ((j : ℕ) → capacity_at lists j ≡ capacity_at first j) → HasRoomFor v 1
room-here first lists columns k x v l e up kl at room others same =
    omega (arith, room_x, ap length (items-read lists x v l e), ap length (others x apart), capacity-read lists x v l e, same x)
  where
    apart : (i : ℕ) → i < k → get_or columns i 0 ≢ x
    apart i il q = omega (arith, rises columns up i k il kl)

    room_x : length (list_items_at first x) + 1 ≤ capacity_at first x
    room_x = subst (λ y. length (list_items_at first y) + 1 ≤ capacity_at first y) at (room k kl)

-- all columns are done
pub entered-all : (first lists : List (SmallVec ℕ)) (columns : List ℕ) (row k : ℕ) → length lists ≡ length first → length columns ≤ k → k ≤ length columns →
    ((i : ℕ) → i < k → list_items_at lists (get_or columns i 0) ≡ list_items_at first (get_or columns i 0) ++ row ∷ []) →
    ((j : ℕ) → ((i : ℕ) → i < k → get_or columns i 0 ≢ j) → list_items_at lists j ≡ list_items_at first j) → IsEntered first lists columns row
entered-all first lists columns row k count all within entered others = record {
  count = count;
  entered = λ j jl h. let m = has-member columns j h in subst (λ y. list_items_at lists y ≡ list_items_at first y ++ row ∷ []) m.2
      (entered m.0 (omega (arith, m.1)));
  others = λ j jl h. others j (λ i il q. differ (sym h ∙ has-at columns i j (omega arith) q));
}
  where
    differ : false ≡ true → ⊥
    differ e = cc
