-- Rows of items: the number at a column, one more item, and the first item from a column on.
use Rattle.std.proofs.Common.{◌≡◌, ℕ, suc, zero, ◌+◌, ◌-◌, ◌<◌, ◌≤◌, ◌≢◌, ◌⊎◌, inl, inr, Bool, true, false, cond, eqb, ltb}
use Rattle.std.proofs.Common.{not, ltb-true, List, [], ◌∷◌, ◌++◌, take, length, map, slice_index_or, refl, ap, sym, subst}
use Rattle.std.proofs.Common.{◌∙◌, arith, length-append}
use Rattle.std.proofs.lemmas.List.{get_or_append_left, get_or_at, take_more, get_or_default, get_or_past, length-map, get_or-map}
use Rattle.std.proofs.lemmas.Bool.Decides.{nat_tests}
use Rattle.residue_theory.proofs.SumLaws.{nat_cases}
use Rattle.row_entries.specs.Rows.{Item, number_at, item_or, EndsBefore, IsRising, IsEntryRow, with_last, IsPlaceFrom, has_number}
use Rattle.std.specs.List.{AllWithin}
use Rattle.std.specs.List.Sorted.{IsNonDecreasingBy, IsPartitionPoint}
use Rattle.residue_theory.specs.Ranges.{HasNone, IsLeast}

abbrev pub item : ℕ → ℕ → Item
item c n = record { column = c; number = n }

-- ---- the number at a column
pub number-push : (xs : List Item) (c n j : ℕ) → number_at (xs ++ item c n ∷ []) j ≡ number_at xs j + cond (eqb c j) n 0
number-push [] c n j = omega arith
number-push (x ∷ xs) c n j = ap (λ y. cond (eqb x.column j) x.number 0 + y) (number-push xs c n j) ∙ omega arith

pub number-last : (xs : List Item) (c n j : ℕ) → number_at (with_last xs c n) j ≡ number_at xs j + cond (eqb c j) n 0
number-last xs c n j = elim (nat_cases n 0) [
  | inl z ↦ subst (λ m. number_at (with_last xs c m) j ≡ number_at xs j + cond (eqb c j) m 0) (sym z)
      (nothing (eqb c j))
  | inr ne ↦ ap (λ ys. number_at ys j) (kept (xs ++ item c n ∷ []) ne) ∙ number-push xs c n j
]
  where
    nothing : (b : Bool) → number_at xs j ≡ number_at xs j + cond b 0 0
    nothing true = omega arith
    nothing false = omega arith

    kept : (ys : List Item) → n ≢ 0 → cond (eqb n 0) xs ys ≡ ys
    kept ys ne = grind (arith, nat_tests)

-- no number stands where no item does
pub number-absent : (xs : List Item) (j : ℕ) → ((i : ℕ) → i < length xs → (item_or 0 xs i).column ≢ j) →
    number_at xs j ≡ 0
number-absent [] j none = refl
number-absent (x ∷ xs) j none = ap (λ y. cond (eqb x.column j) x.number 0 + y)
    (number-absent xs j (λ i l. none (suc i) (omega arith))) ∙ other (none 0 (omega arith))
  where
    other : x.column ≢ j → cond (eqb x.column j) x.number 0 + 0 ≡ 0
    other ne = grind (arith, nat_tests)

pub number-before : (xs : List Item) (c j : ℕ) → EndsBefore xs c → c ≤ j → number_at xs j ≡ 0
number-before xs c j before le = number-absent xs j (λ i l q. let less : (item_or 0 xs i).column < c = before i l in
    omega arith)

pub rising-rest : (x : Item) (xs : List Item) → IsRising (x ∷ xs) → IsRising xs
rising-rest x xs rising i j l jl = rising (suc i) (suc j) (omega arith) (omega arith)

-- an item's number is the number at its column
pub number-here : (xs : List Item) (i : ℕ) → IsRising xs → i < length xs →
    number_at xs (item_or 0 xs i).column ≡ (item_or 0 xs i).number
number-here [] i rising l = absurd (omega arith)
number-here (x ∷ xs) zero rising l =
    ap (λ y. cond (eqb x.column x.column) x.number 0 + y)
    (number-absent xs x.column (λ i il q. let less : x.column < (item_or 0 xs i).column = rising 0 (suc i)
    (omega arith) (omega arith) in omega arith))
    ∙ same
  where
    same : cond (eqb x.column x.column) x.number 0 + 0 ≡ x.number
    same = grind (arith, nat_tests)
number-here (x ∷ xs) (suc i) rising l =
    ap (λ y. cond (eqb x.column (item_or 0 xs i).column) x.number 0 + y) (number-here xs i (rising-rest x xs rising)
    (omega arith))
    ∙ other (rising 0 (suc i) (omega arith) l)
  where
    other : x.column < (item_or 0 xs i).column → cond (eqb x.column (item_or 0 xs i).column) x.number 0
        + (item_or 0 xs i).number ≡ (item_or 0 xs i).number
    other less = grind (arith, nat_tests)

-- the numbers are residues
pub number-below : (p : ℕ) (xs : List Item) (j : ℕ) → 0 < p → IsRising xs →
    ((i : ℕ) → i < length xs → (item_or 0 xs i).number < p) → number_at xs j < p
number-below p [] j positive rising below = positive
number-below p (x ∷ xs) j positive rising below = elim (nat_cases x.column j) [
  | inl q ↦ subst (λ k. number_at (x ∷ xs) k < p) q
      (subst (λ n. n < p) (sym (number-here (x ∷ xs) 0 rising (omega arith))) (below 0 (omega arith)))
  | inr ne ↦ subst (λ n. n < p) (sym (other ne)) (number-below p xs j positive (rising-rest x xs rising)
      (λ i l. below (suc i) (omega arith)))
]
  where
    other : x.column ≢ j → cond (eqb x.column j) x.number 0 + number_at xs j ≡ number_at xs j
    other ne = grind (arith, nat_tests)

-- ---- one more item
-- what holds of each item, and of one more
pushed : (P : Item → Type 0) (xs : List Item) (x : Item) → ((i : ℕ) → i < length xs → P (item_or 0 xs i)) → P x →
    (i : ℕ) → i < length (xs ++ x ∷ []) → P (item_or 0 (xs ++ x ∷ []) i)
pushed P xs x before now i l = elim (nat_cases i (length xs)) [
  | inl q ↦ subst P (sym (get_or_at xs x [] (item 0 0) i (sym q))) now
  | inr ne ↦ let less : i < length xs = omega (arith, length-append xs (x ∷ [])) in subst P
      (sym (get_or_append_left xs (x ∷ []) (item 0 0) i less)) (before i less)
]

-- a zero is left out, and any other number is put behind
module _ (P : List Item → Type 0) (xs : List Item) (c n : ℕ) where
  pub either : P xs → (n ≢ 0 → P (xs ++ item c n ∷ [])) → P (with_last xs c n)
  either left put = elim (nat_cases n 0) [
    | inl z ↦ subst P (sym (without z)) left
    | inr ne ↦ subst P (sym (with_it ne)) (put ne)
  ]
    where
      choice : (ys : List Item) → n ≡ 0 → cond (eqb n 0) xs ys ≡ xs
      choice ys z = grind (arith, nat_tests)

      other : (ys : List Item) → n ≢ 0 → cond (eqb n 0) xs ys ≡ ys
      other ys ne = grind (arith, nat_tests)

      without : n ≡ 0 → with_last xs c n ≡ xs
      without z = choice (xs ++ item c n ∷ []) z

      with_it : n ≢ 0 → with_last xs c n ≡ xs ++ item c n ∷ []
      with_it ne = other (xs ++ item c n ∷ []) ne

pub last-before : (xs : List Item) (c n d : ℕ) → EndsBefore xs c → c < d → EndsBefore (with_last xs c n) d
last-before xs c n d before less = either (λ ys. EndsBefore ys d) xs c n so_far
    (λ _. pushed (λ x. x.column < d) xs (item c n) so_far less)
  where
    so_far : EndsBefore xs d
    so_far i l = let h : (item_or 0 xs i).column < c = before i l in omega arith

pushed-rising : (xs : List Item) (c n : ℕ) → IsRising xs → EndsBefore xs c → IsRising (xs ++ item c n ∷ [])
pushed-rising xs c n rising before i j l jl = elim (nat_cases j (length xs)) [
  | inl q ↦
      subst (λ x. (item_or 0 (xs ++ item c n ∷ []) i).column < x.column)
      (sym (get_or_at xs (item c n) [] (item 0 0) j (sym q)))
      (subst (λ x. x.column < c) (sym (get_or_append_left xs (item c n ∷ []) (item 0 0) i (omega arith)))
      (before i (omega arith)))
  | inr ne ↦
      let less : j < length xs = omega (arith, length-append xs (item c n ∷ [])) in
      subst (λ x. (item_or 0 (xs ++ item c n ∷ []) i).column < x.column)
      (sym (get_or_append_left xs (item c n ∷ []) (item 0 0) j less))
      (subst (λ x. x.column < (item_or 0 xs j).column)
      (sym (get_or_append_left xs (item c n ∷ []) (item 0 0) i (omega arith))) (rising i j l less))
]

pub pushed-row : (p w : ℕ) (xs : List Item) (c n : ℕ) → IsEntryRow p w xs → EndsBefore xs c → c < w → n ≢ 0 → n < p →
    IsEntryRow p w (xs ++ item c n ∷ [])
pushed-row p w xs c n row before less ne below = record {
  rising = pushed-rising xs c n row.rising before;
  narrow = pushed (λ x. x.column < w) xs (item c n) row.narrow less;
  some = pushed (λ x. x.number ≢ 0) xs (item c n) row.some ne;
  below = pushed (λ x. x.number < p) xs (item c n) row.below below;
}

-- a row that ends before column c has no more than c items
pub few_before : (xs : List Item) (c : ℕ) → IsRising xs → EndsBefore xs c → length xs ≤ c
few_before xs c rising before = elim (nat_cases (length xs) 0) [
  | inl z ↦ omega arith
  | inr ne ↦ let last : (item_or 0 xs (length xs - 1)).column < c = before (length xs - 1) (omega arith) in
      let far : length xs - 1 ≤ (item_or 0 xs (length xs - 1)).column = far_enough (length xs - 1) (omega arith) in
      omega arith
]
  where
    far_enough : (i : ℕ) → i < length xs → i ≤ (item_or 0 xs i).column
    far_enough zero l = omega arith
    far_enough (suc i) l = let before_it : i ≤ (item_or 0 xs i).column = far_enough i (omega arith) in
        let next : (item_or 0 xs i).column < (item_or 0 xs (suc i)).column = rising i (suc i) (omega arith) l in omega
        arith

-- ---- the next item
-- the column of the next item is above that of this one
pub next-above : (p w : ℕ) (xs : List Item) (i : ℕ) → IsEntryRow p w xs → i < length xs → (item_or w xs i).column
    < (item_or w xs (i + 1)).column
next-above p w xs i row l =
    subst (λ x. x.column < (item_or w xs (i + 1)).column) (get_or_default xs i (item 0 0) (item w 0) l)
    (elim (nat_cases (length xs) (i + 1)) [
      | inl q ↦ subst (λ x. (item_or 0 xs i).column < x.column)
          (sym (get_or_past xs (i + 1) (item w 0) (omega arith))) (row.narrow i l)
      | inr ne ↦ subst (λ x. (item_or 0 xs i).column < x.column) (get_or_default xs (i + 1) (item 0 0) (item w 0)
          (omega arith)) (row.rising i (i + 1) (omega arith) (omega arith))
    ])

pub lt_or_past : (a b : ℕ) → (a < b) ⊎ (b ≤ a)
lt_or_past a b = grind arith

-- a column below the width stands at an item
pub place-within : (w : ℕ) (xs : List Item) (i : ℕ) → (item_or w xs i).column < w → i < length xs
place-within w xs i less = elim (lt_or_past i (length xs)) [
  | inl l ↦ l
  | inr le ↦ absurd (let e : (item_or w xs i).column ≡ w = ap (λ (x : Item). x.column)
      (get_or_past xs i (item w 0) le) in omega arith)
]

-- an item within the list stands below the width, and its number is a residue
pub column-narrow : (p w : ℕ) (xs : List Item) (i : ℕ) → IsEntryRow p w xs → (item_or w xs i).column ≤ w
column-narrow p w xs i row = elim (lt_or_past i (length xs)) [
  | inl l ↦ subst (λ x. x.column ≤ w) (get_or_default xs i (item 0 0) (item w 0) l)
      (let h : (item_or 0 xs i).column < w = row.narrow i l in omega arith)
  | inr le ↦ subst (λ x. x.column ≤ w) (sym (get_or_past xs i (item w 0) le)) (omega arith)
]

pub number-narrow : (p w : ℕ) (xs : List Item) (i : ℕ) → IsEntryRow p w xs → i < length xs → (item_or w xs i).number < p
number-narrow p w xs i row l = subst (λ x. x.number < p) (get_or_default xs i (item 0 0) (item w 0) l) (row.below i l)

pub number-taken : (w : ℕ) (xs : List Item) (i j : ℕ) → i < length xs → number_at (take (i + 1) xs) j ≡ number_at
    (take i xs) j + cond (eqb (item_or w xs i).column j) (item_or w xs i).number 0
number-taken w xs i j l = ap (λ ys. number_at ys j) (take_more xs i (item w 0) l)
    ∙ number-push (take i xs) (item_or w xs i).column (item_or w xs i).number j

-- ---- the first item from a column on
not-less : (m c : ℕ) → ltb m c ≡ false → c ≤ m
not-less m c e = grind (arith, nat_tests)

module _ {A : Type 0} (f : A → Item) (xs : List A) (rising : IsRising (map f xs)) where
  pub here-is : (i : ℕ) (d : A) → i < length xs → item_or 0 (map f xs) i ≡ f (slice_index_or xs i d)
  here-is i d l = get_or-map f xs i d (item 0 0) l

  pub columns-rise : IsNonDecreasingBy (λ a. (f a).column) xs
  columns-rise i j d le l = elim (nat_cases i j) [
    | inl q ↦ subst (λ k. (f (slice_index_or xs i d)).column ≤ (f (slice_index_or xs k d)).column) q (omega arith)
    | inr ne ↦
        let less : (item_or 0 (map f xs) i).column < (item_or 0 (map f xs) j).column = rising i j (omega arith)
        (omega (arith, length-map xs f)) in
        let there : (f (slice_index_or xs i d)).column < (item_or 0 (map f xs) j).column = subst
        (λ x. x.column < (item_or 0 (map f xs) j).column) (here-is i d (omega arith)) less in
        let both : (f (slice_index_or xs i d)).column < (f (slice_index_or xs j d)).column = subst
        (λ x. (f (slice_index_or xs i d)).column < x.column) (here-is j d l) there in
        omega arith
  ]

  pub place-found : (c i : ℕ) → i ≤ length xs → IsPartitionPoint (λ a. ltb (f a).column c ≡ true)
      (λ a. ltb (f a).column c ≡ false) xs i → IsPlaceFrom (map f xs) c i
  place-found c i le point = record {
    within = omega (arith, length-map xs f);
    before = λ t l. before-at xs t l (omega arith) point.0;
    behind = λ t ge l. behind-at xs t ge (omega (arith, length-map xs f)) (omega (arith, length-map xs f)) point.1;
  }
    where
      before-at : (ys : List A) (t : ℕ) → t < i → t < length ys → AllWithin (λ a. ltb (f a).column c ≡ true) ys 0 i →
          (item_or 0 (map f ys) t).column < c
      before-at [] t l tl all = absurd (omega arith)
      before-at (y ∷ ys) t l tl all = subst (λ x. x.column < c) (sym (get_or-map f (y ∷ ys) t y (item 0 0) tl))
          (ltb-true _ _ (all t y (omega arith) l))

      behind-at : (ys : List A) (t : ℕ) → i ≤ t → t < length ys → t < length xs →
          AllWithin (λ a. ltb (f a).column c ≡ false) ys i (length xs) → c ≤ (item_or 0 (map f ys) t).column
      behind-at [] t ge tl all_of all = absurd (omega arith)
      behind-at (y ∷ ys) t ge tl all_of all = subst (λ x. c ≤ x.column)
          (sym (get_or-map f (y ∷ ys) t y (item 0 0) tl)) (not-less _ c (all t y ge all_of))

-- where the first item from column c on is at another column, or there is none, no number stands at c
pub at-absent : (w : ℕ) (xs : List Item) (c i : ℕ) → IsRising xs → IsPlaceFrom xs c i →
    (i < length xs → (item_or w xs i).column ≢ c) → number_at xs c ≡ 0
at-absent w xs c i rising place other = number-absent xs c (λ t l q. elim (lt_or_past t i) [
  | inl less ↦ absurd (let h : (item_or 0 xs t).column < c = place.before t less in omega arith)
  | inr ge ↦ absurd (elim (nat_cases t i) [
    | inl s ↦ other (subst (λ k. k < length xs) s l)
        (ap (λ (x : Item). x.column) (sym (get_or_default xs i (item 0 0) (item w 0)
        (subst (λ k. k < length xs) s l))) ∙ subst (λ k. (item_or 0 xs k).column ≡ c) s q)
    | inr ne ↦ let far : (item_or 0 xs i).column < (item_or 0 xs t).column = rising i t (omega arith) l in
        let least : c ≤ (item_or 0 xs i).column = place.behind i (omega arith) (omega arith) in omega arith
  ])
])

pub at-here : (w : ℕ) (xs : List Item) (c i n : ℕ) → IsRising xs → i < length xs → (item_or w xs i).column ≡ c →
    n ≡ (item_or w xs i).number → n ≡ number_at xs c
at-here w xs c i n rising l at_c is =
    is ∙ ap (λ (x : Item). x.number) (get_or_default xs i (item w 0) (item 0 0) l) ∙ sym (number-here xs i rising l)
    ∙ ap (λ j. number_at xs j) (ap (λ (x : Item). x.column) (get_or_default xs i (item 0 0) (item w 0) l) ∙ at_c)

module _ (p w : ℕ) (xs : List Item) (c i : ℕ) (row : IsEntryRow p w xs) (place : IsPlaceFrom xs c i) where
  no-number : (j : ℕ) → number_at xs j ≡ 0 → has_number xs j ≡ false
  no-number j z = grind (arith, nat_tests)

  pub next-none : length xs ≤ i → HasNone (has_number xs) c w
  next-none past j ge l = no-number j
      (number-absent xs j (λ t tl q. let h : (item_or 0 xs t).column < c = place.before t (omega arith) in omega arith))

  pub next-least : (y : ℕ) → i < length xs → y ≡ (item_or w xs i).column → IsLeast (has_number xs) c w y
  next-least y l is = record {
    from_on = subst (λ k. c ≤ k) (sym here) (place.behind i (omega arith) l);
    before_end = subst (λ k. k < w) (sym here) (row.narrow i l);
    holds = subst (λ k. has_number xs k ≡ true) (sym here) (some (number_at xs (item_or 0 xs i).column)
        (λ z. row.some i l (sym (number-here xs i row.rising l) ∙ z)));
    none_before = λ j ge less. no-number j (number-absent xs j (λ t tl q. elim (lt_or_past t i) [
      | inl before ↦ absurd (let h : (item_or 0 xs t).column < c = place.before t before in omega arith)
      | inr behind ↦ absurd (elim (nat_cases t i) [
        | inl s ↦ let same : (item_or 0 xs i).column ≡ j = subst (λ k. (item_or 0 xs k).column ≡ j) s q in
            let at_y : y ≡ (item_or 0 xs i).column = here in omega arith
        | inr ne ↦ let far : (item_or 0 xs i).column < (item_or 0 xs t).column = row.rising i t (omega arith) tl in
            let at_y : y ≡ (item_or 0 xs i).column = here in omega arith
      ])
    ]));
  }
    where
      here : y ≡ (item_or 0 xs i).column
      here = is ∙ ap (λ (x : Item). x.column) (get_or_default xs i (item w 0) (item 0 0) l)

      some : (n : ℕ) → n ≢ 0 → not (eqb n 0) ≡ true
      some n ne = grind (arith, nat_tests)
