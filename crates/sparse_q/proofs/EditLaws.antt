-- Rows whose columns come and go, and of which an item comes or goes.
use Rattle.std.proofs.Common.{◌≡◌, ℕ, suc, zero, ◌+◌, ◌-◌, ◌<◌, ◌≤◌, ◌≢◌, ◌⊎◌, inl, inr, false, cond, eqb}
use Rattle.std.proofs.Common.{List, [], ◌∷◌, length, map, refl, ap, sym, subst, ◌∙◌, arith}
use Rattle.std.specs.List.{insert, remove}
use Rattle.std.proofs.lemmas.List.{length-map, get_or-map}
use Rattle.std.proofs.lemmas.List.Edits.{get_or-insert_at, get_or-insert_below, get_or-insert_above, get_or-remove_below, get_or-remove_above}
use Rattle.std.proofs.lemmas.Bool.Decides.{nat_tests}
use Rattle.residue_theory.proofs.SumLaws.{nat_cases}
use Rattle.linear_algebra.specs.Parts.{skip, unskip}
use Rattle.row_entries.specs.declared.entry.Entry.{Entry}
use Rattle.row_entries.specs.Rows.{items}
use Rattle.sparse_q.specs.Rows.{Item, number_at, item_or, IsRising, IsEntryRow, IsPlaceFrom, at_column, entry_moved, columns_raised, columns_lowered}
use Rattle.sparse_q.specs.Storage.{IsKeptRow}
use Rattle.sparse_q.proofs.RowLaws.{item, few_before, number-here, number-absent, rising-rest, lt_or_past}

-- ---- items at other columns
moved-at : (f : ℕ → ℕ) (xs : List Item) (i : ℕ) → i < length xs → item_or 0 (map (at_column f) xs) i ≡ at_column f (item_or 0 xs i)
moved-at f xs i l = get_or-map (at_column f) xs i (item 0 0) (item 0 0) l

module _ (f : ℕ → ℕ) (p w n : ℕ) (xs : List Item) (row : IsEntryRow p w xs)
    (order : (a b : ℕ) → a < b → b < w → f a < f b) (below : (i : ℕ) → i < length xs → f (item_or 0 xs i).column < n) where
  within : (i : ℕ) → i < length (map (at_column f) xs) → i < length xs
  within i l = omega (arith, l, length-map xs (at_column f))

  pub moved-row : IsEntryRow p n (map (at_column f) xs)
  moved-row = record {
    rising = λ i j l jl.
        let high : j < length xs = within j jl in
        let low : i < length xs = omega (arith, l, high) in
        subst (λ (x : Item). x.column < (item_or 0 (map (at_column f) xs) j).column) (sym (moved-at f xs i low))
        (subst (λ (x : Item). f (item_or 0 xs i).column < x.column) (sym (moved-at f xs j high))
        (order (item_or 0 xs i).column (item_or 0 xs j).column (row.rising i j l high) (row.narrow j high)));
    narrow = λ i l. subst (λ (x : Item). x.column < n) (sym (moved-at f xs i (within i l))) (below i (within i l));
    some = λ i l. subst (λ (x : Item). x.number ≢ 0) (sym (moved-at f xs i (within i l))) (row.some i (within i l));
    below = λ i l. subst (λ (x : Item). x.number < p) (sym (moved-at f xs i (within i l))) (row.below i (within i l));
  }

-- ---- a column comes in
skip-less : (v a b : ℕ) → a < b → skip v a < skip v b
skip-less v a b l = grind (arith, nat_tests)

skip-small : (v a w : ℕ) → a < w → skip v a < w + 1
skip-small v a w l = grind (arith, nat_tests)

pub raised-row : (p w v : ℕ) (xs : List Item) → IsEntryRow p w xs → IsEntryRow p (w + 1) (columns_raised v xs)
raised-row p w v xs row = moved-row (skip v) p w (w + 1) xs row (λ a b l _. skip-less v a b l)
    (λ i l. skip-small v (item_or 0 xs i).column w (row.narrow i l))

pub raised-number : (v : ℕ) (xs : List Item) (j : ℕ) → number_at (columns_raised v xs) (skip v j) ≡ number_at xs j
raised-number v [] j = refl
raised-number v (x ∷ xs) j = ap (λ b. cond b x.number 0 + number_at (columns_raised v xs) (skip v j)) (same v x.column j)
    ∙ ap (λ n. cond (eqb x.column j) x.number 0 + n) (raised-number v xs j)
  where
    same : (v c j : ℕ) → eqb (skip v c) (skip v j) ≡ eqb c j
    same v c j = grind (arith, nat_tests)

pub raised-none : (v : ℕ) (xs : List Item) → number_at (columns_raised v xs) v ≡ 0
raised-none v [] = refl
raised-none v (x ∷ xs) = ap (λ b. cond b x.number 0 + number_at (columns_raised v xs) v) (apart v x.column)
    ∙ (let e : 0 + number_at (columns_raised v xs) v ≡ 0 = omega (arith, raised-none v xs) in e)
  where
    apart : (v c : ℕ) → eqb (skip v c) v ≡ false
    apart v c = grind (arith, nat_tests)

-- ---- a column goes, at which no item stands
-- where the number at a column is 0, no item stands there
pub none-at : (p w v : ℕ) (xs : List Item) → IsEntryRow p w xs → number_at xs v ≡ 0 → (i : ℕ) → i < length xs →
    (item_or 0 xs i).column ≢ v
none-at p w v xs row zero_at i l q = row.some i l (sym (number-here xs i row.rising l) ∙ ap (number_at xs) q ∙ zero_at)

unskip-less : (v a b : ℕ) → a < b → a ≢ v → b ≢ v → unskip v a < unskip v b
unskip-less v a b l ne other = grind (arith, nat_tests)

unskip-small : (v a w : ℕ) → a < w → a ≢ v → v < w → unskip v a < w - 1
unskip-small v a w l ne vl = grind (arith, nat_tests)

pub lowered-row : (p w v : ℕ) (xs : List Item) → IsEntryRow p w xs → v < w → number_at xs v ≡ 0 →
    IsEntryRow p (w - 1) (columns_lowered v xs)
lowered-row p w v xs row vl zero_at = record {
  rising = λ i j l jl.
      let high : j < length xs = omega (arith, jl, length-map xs (at_column (unskip v))) in
      let low : i < length xs = omega (arith, l, high) in
      subst (λ (x : Item). x.column < (item_or 0 (columns_lowered v xs) j).column) (sym (moved-at (unskip v) xs i low))
      (subst (λ (x : Item). unskip v (item_or 0 xs i).column < x.column) (sym (moved-at (unskip v) xs j high))
      (unskip-less v (item_or 0 xs i).column (item_or 0 xs j).column (row.rising i j l high) (none i low) (none j high)));
  narrow = λ i l. subst (λ (x : Item). x.column < w - 1) (sym (moved-at (unskip v) xs i (inside i l)))
      (unskip-small v (item_or 0 xs i).column w (row.narrow i (inside i l)) (none i (inside i l)) vl);
  some = λ i l. subst (λ (x : Item). x.number ≢ 0) (sym (moved-at (unskip v) xs i (inside i l))) (row.some i (inside i l));
  below = λ i l. subst (λ (x : Item). x.number < p) (sym (moved-at (unskip v) xs i (inside i l))) (row.below i (inside i l));
}
  where
    inside : (i : ℕ) → i < length (columns_lowered v xs) → i < length xs
    inside i l = omega (arith, l, length-map xs (at_column (unskip v)))

    none : (i : ℕ) → i < length xs → (item_or 0 xs i).column ≢ v
    none = none-at p w v xs row zero_at

lowered-free : (v : ℕ) (xs : List Item) → ((i : ℕ) → i < length xs → (item_or 0 xs i).column ≢ v) → (j : ℕ) →
    number_at (columns_lowered v xs) j ≡ number_at xs (skip v j)
lowered-free v [] none j = refl
lowered-free v (x ∷ xs) none j = ap (λ b. cond b x.number 0 + number_at (columns_lowered v xs) j) (same v x.column j (none 0 (omega arith)))
    ∙ ap (λ n. cond (eqb x.column (skip v j)) x.number 0 + n) (lowered-free v xs (λ i l. none (suc i) (omega (arith, l))) j)
  where
    same : (v c j : ℕ) → c ≢ v → eqb (unskip v c) j ≡ eqb c (skip v j)
    same v c j ne = grind (arith, nat_tests)

pub lowered-number : (p w v : ℕ) (xs : List Item) → IsEntryRow p w xs → number_at xs v ≡ 0 → (j : ℕ) →
    number_at (columns_lowered v xs) j ≡ number_at xs (skip v j)
lowered-number p w v xs row zero_at j = lowered-free v xs (none-at p w v xs row zero_at) j

-- ---- an item goes
pub drop_length : (xs : List Item) (i : ℕ) → i < length xs → length (remove xs i) + 1 ≡ length xs
drop_length [] i l = absurd (omega (arith, l))
drop_length (x ∷ xs) zero l = omega arith
drop_length (x ∷ xs) (suc i) l = let e : length (remove xs i) + 1 ≡ length xs = drop_length xs i (omega (arith, l)) in omega (arith, e)

-- the items left are those at the other places, in order
left-at : (xs : List Item) (i : ℕ) → i < length xs → (k : ℕ) → item_or 0 (remove xs i) k ≡ item_or 0 xs (skip i k)
left-at xs i l k = elim (lt_or_past k i) [
  | inl less ↦ get_or-remove_below xs i (item 0 0) k less l ∙ ap (item_or 0 xs) (sym (first i k less))
  | inr le ↦ get_or-remove_above xs i (item 0 0) k le l ∙ ap (item_or 0 xs) (sym (later i k le))
]
  where
    first : (i k : ℕ) → k < i → skip i k ≡ k
    first i k less = grind (arith, nat_tests)

    later : (i k : ℕ) → i ≤ k → skip i k ≡ k + 1
    later i k le = grind (arith, nat_tests)

pub removed-row : (p w : ℕ) (xs : List Item) (i : ℕ) → IsEntryRow p w xs → i < length xs → IsEntryRow p w (remove xs i)
removed-row p w xs i row l = record {
  rising = λ a b less bl.
      subst (λ (x : Item). x.column < (item_or 0 (remove xs i) b).column) (sym (left-at xs i l a))
      (subst (λ (x : Item). (item_or 0 xs (skip i a)).column < x.column) (sym (left-at xs i l b))
      (row.rising (skip i a) (skip i b) (skip-less i a b less) (inside b bl)));
  narrow = λ a al. subst (λ (x : Item). x.column < w) (sym (left-at xs i l a)) (row.narrow (skip i a) (inside a al));
  some = λ a al. subst (λ (x : Item). x.number ≢ 0) (sym (left-at xs i l a)) (row.some (skip i a) (inside a al));
  below = λ a al. subst (λ (x : Item). x.number < p) (sym (left-at xs i l a)) (row.below (skip i a) (inside a al));
}
  where
    inside : (a : ℕ) → a < length (remove xs i) → skip i a < length xs
    inside a al = omega (arith, skip-small i a (length (remove xs i)) al, drop_length xs i l)

pub removed-number : (xs : List Item) (i : ℕ) → IsRising xs → i < length xs → (j : ℕ) →
    number_at (remove xs i) j ≡ cond (eqb j (item_or 0 xs i).column) 0 (number_at xs j)
removed-number [] i rising l j = absurd (omega (arith, l))
removed-number (x ∷ xs) zero rising l j = elim (nat_cases j x.column) [
  | inl q ↦
      number-absent xs j (λ i il e. let less : x.column < (item_or 0 xs i).column = rising 0 (suc i) (omega arith) (omega (arith, il)) in
      omega (arith, less, e, q))
      ∙ sym (hit j x.column (number_at (x ∷ xs) j) q)
  | inr ne ↦ sym (miss j x.column (number_at (x ∷ xs) j) ne ∙ other x.column j x.number (number_at xs j) ne)
]
  where
    hit : (j c n : ℕ) → j ≡ c → cond (eqb j c) 0 n ≡ 0
    hit j c n q = grind (arith, nat_tests)

    miss : (j c n : ℕ) → j ≢ c → cond (eqb j c) 0 n ≡ n
    miss j c n ne = grind (arith, nat_tests)

    other : (c j n m : ℕ) → j ≢ c → cond (eqb c j) n 0 + m ≡ m
    other c j n m ne = grind (arith, nat_tests)
removed-number (x ∷ xs) (suc i) rising l j =
    ap (λ n. cond (eqb x.column j) x.number 0 + n) (removed-number xs i (rising-rest x xs rising) (omega (arith, l)) j)
    ∙ inside j (item_or 0 xs i).column x.column x.number (number_at xs j) (rising 0 (suc i) (omega arith) l)
  where
    inside : (j c d n m : ℕ) → d < c → cond (eqb d j) n 0 + cond (eqb j c) 0 m ≡ cond (eqb j c) 0 (cond (eqb d j) n 0 + m)
    inside j c d n m less = grind (arith, nat_tests)

-- ---- an item comes
pub inserted-sum : (xs : List Item) (i c n j : ℕ) → i ≤ length xs → number_at (insert xs i (item c n)) j ≡ number_at xs j + cond (eqb c j) n 0
inserted-sum xs zero c n j l = omega arith
inserted-sum [] (suc i) c n j l = absurd (omega (arith, l))
inserted-sum (x ∷ xs) (suc i) c n j l = ap (λ m. cond (eqb x.column j) x.number 0 + m) (inserted-sum xs i c n j (omega (arith, l))) ∙ omega arith

pub inserted-number : (xs : List Item) (i c n j : ℕ) → i ≤ length xs → number_at xs c ≡ 0 →
    number_at (insert xs i (item c n)) j ≡ cond (eqb j c) n (number_at xs j)
inserted-number xs i c n j l zero_at = inserted-sum xs i c n j l ∙ elim (nat_cases j c) [
  | inl q ↦ subst (λ k. number_at xs k + cond (eqb c k) n 0 ≡ cond (eqb k c) n (number_at xs k)) (sym q)
      (ap (λ m. m + cond (eqb c c) n 0) zero_at ∙ here c n (number_at xs c))
  | inr ne ↦ apart j c n (number_at xs j) ne
]
  where
    here : (c n m : ℕ) → 0 + cond (eqb c c) n 0 ≡ cond (eqb c c) n m
    here c n m = grind (arith, nat_tests)

    apart : (j c n m : ℕ) → j ≢ c → m + cond (eqb c j) n 0 ≡ cond (eqb j c) n m
    apart j c n m ne = grind (arith, nat_tests)

pub insert_length : (xs : List Item) (i : ℕ) (x : Item) → i ≤ length xs → length (insert xs i x) ≡ length xs + 1
insert_length xs zero x l = omega arith
insert_length [] (suc i) x l = absurd (omega (arith, l))
insert_length (y ∷ xs) (suc i) x l = let e : length (insert xs i x) ≡ length xs + 1 = insert_length xs i x (omega (arith, l)) in omega (arith, e)

module _ (xs : List Item) (i : ℕ) (x : Item) (l : i ≤ length xs) where
  inserted-here : item_or 0 (insert xs i x) i ≡ x
  inserted-here = get_or-insert_at xs i x (item 0 0) l

  inserted-other : (k : ℕ) → item_or 0 (insert xs i x) (skip i k) ≡ item_or 0 xs k
  inserted-other k = elim (lt_or_past k i) [
    | inl less ↦ ap (item_or 0 (insert xs i x)) (first i k less) ∙ get_or-insert_below xs i x (item 0 0) k less l
    | inr le ↦ ap (item_or 0 (insert xs i x)) (later i k le) ∙ get_or-insert_above xs i x (item 0 0) k le l
  ]
    where
      first : (i k : ℕ) → k < i → skip i k ≡ k
      first i k less = grind (arith, nat_tests)

      later : (i k : ℕ) → i ≤ k → skip i k ≡ k + 1
      later i k le = grind (arith, nat_tests)

  -- a place is that of the new item, or of one that was there
  places : (k : ℕ) → k < length (insert xs i x) → (k ≡ i) ⊎ ((t : ℕ) × (t < length xs) × (k ≡ skip i t))
  places k kl = elim (nat_cases k i) [
    | inl q ↦ inl q
    | inr ne ↦ inr (unskip i k, unskip-small-place (omega (arith, kl, insert_length xs i x l)) ne, back i k ne)
  ]
    where
      back : (i k : ℕ) → k ≢ i → k ≡ skip i (unskip i k)
      back i k ne = grind (arith, nat_tests)

      smaller : (i k n : ℕ) → k < n + 1 → k ≢ i → i ≤ n → unskip i k < n
      smaller i k n less ne le = grind (arith, nat_tests)

      unskip-small-place : k < length xs + 1 → k ≢ i → unskip i k < length xs
      unskip-small-place less ne = smaller i k (length xs) less ne l

  pub inserted-each : (P : Item → Type 0) → P x → ((t : ℕ) → t < length xs → P (item_or 0 xs t)) → (k : ℕ) →
      k < length (insert xs i x) → P (item_or 0 (insert xs i x) k)
  inserted-each P new old k kl = elim (places k kl) [
    | inl q ↦ subst (λ k. P (item_or 0 (insert xs i x) k)) (sym q) (subst P (sym inserted-here) new)
    | inr (t, tl, q) ↦ subst (λ k. P (item_or 0 (insert xs i x) k)) (sym q) (subst P (sym (inserted-other t)) (old t tl))
  ]

-- it fits between the items before it and those after it
pub inserted-row : (p w : ℕ) (xs : List Item) (i c n : ℕ) → IsEntryRow p w xs → IsPlaceFrom xs c i → number_at xs c ≡ 0 → c < w →
    n ≢ 0 → n < p → IsEntryRow p w (insert xs i (item c n))
inserted-row p w xs i c n row place zero_at cl some small = record {
  rising = λ a b less bl. rises a b less (places xs i x place.within a (omega (arith, less, bl))) (places xs i x place.within b bl);
  narrow = inserted-each xs i x place.within (λ y. y.column < w) cl row.narrow;
  some = inserted-each xs i x place.within (λ y. y.number ≢ 0) some row.some;
  below = inserted-each xs i x place.within (λ y. y.number < p) small row.below;
}
  where
    x : Item
    x = item c n

    column : ℕ → ℕ
    column k = (item_or 0 (insert xs i x) k).column

    here : (k : ℕ) → k ≡ i → column k ≡ c
    here k q = ap column q ∙ ap (λ (y : Item). y.column) (inserted-here xs i x place.within)

    there : (k t : ℕ) → k ≡ skip i t → column k ≡ (item_or 0 xs t).column
    there k t q = ap column q ∙ ap (λ (y : Item). y.column) (inserted-other xs i x place.within t)

    before : (i t : ℕ) → skip i t < i → t < i
    before i t less = grind (arith, nat_tests)

    behind : (i t : ℕ) → i < skip i t → i ≤ t
    behind i t less = grind (arith, nat_tests)

    order : (i s t : ℕ) → skip i s < skip i t → s < t
    order i s t less = grind (arith, nat_tests)

    after : (t : ℕ) → i ≤ t → t < length xs → c < (item_or 0 xs t).column
    after t le tl = omega (arith, place.behind t le tl, none-at p w c xs row zero_at t tl)

    rises : (a b : ℕ) → a < b → (a ≡ i) ⊎ ((t : ℕ) × (t < length xs) × (a ≡ skip i t)) →
        (b ≡ i) ⊎ ((t : ℕ) × (t < length xs) × (b ≡ skip i t)) → column a < column b
    rises a b less (inl q) (inl e) = absurd (omega (arith, less, q, e))
    rises a b less (inl q) (inr (t, tl, e)) = omega
        (arith, here a q, there b t e, after t (behind i t (omega (arith, less, q, e))) tl)
    rises a b less (inr (s, sl, q)) (inl e) = omega
        (arith, there a s q, here b e, place.before s (before i s (omega (arith, less, q, e))))
    rises a b less (inr (s, sl, q)) (inr (t, tl, e)) = omega
        (arith, there a s q, there b t e, row.rising s t (order i s t (omega (arith, less, q, e))) tl)

-- ---- the same, for entries that stand for items
pub map-insert : {A B : Type 0} (f : A → B) (xs : List A) (i : ℕ) (x : A) → map f (insert xs i x) ≡ insert (map f xs) i (f x)
map-insert f xs zero x = refl
map-insert f [] (suc i) x = refl
map-insert f (y ∷ xs) (suc i) x = ap (λ ys. f y ∷ ys) (map-insert f xs i x)

pub map-remove : {A B : Type 0} (f : A → B) (xs : List A) (i : ℕ) → map f (remove xs i) ≡ remove (map f xs) i
map-remove f [] zero = refl
map-remove f [] (suc i) = refl
map-remove f (y ∷ xs) zero = refl
map-remove f (y ∷ xs) (suc i) = ap (λ ys. f y ∷ ys) (map-remove f xs i)

pub items-moved : {T : Type 0} (number : T → ℕ) (f : ℕ → ℕ) (es : List (Entry T)) →
    items number (map (entry_moved f) es) ≡ map (at_column f) (items number es)
items-moved number f [] = refl
items-moved number f (e ∷ es) = ap (λ xs. record { column = f e.column; number = number e.value } ∷ xs) (items-moved number f es)

-- ---- rows as they are stored
module _ {A : Type 0} (f : A → Item) (p w most : ℕ) (xs : List A) (kept : IsKeptRow p w most (map f xs)) where
  module _ (i : ℕ) (x : A) (place : IsPlaceFrom (map f xs) (f x).column i) (none : number_at (map f xs) (f x).column ≡ 0)
      (narrow : (f x).column < w) (some : (f x).number ≢ 0) (small : (f x).number < p) where
    with_it : IsEntryRow p w (insert (map f xs) i (f x))
    with_it = inserted-row p w (map f xs) i (f x).column (f x).number kept.row place none narrow some small

    pub inserted-within : i ≤ length xs
    inserted-within = omega (arith, place.within, length-map xs f)

    -- there is room for one item more where none stands at a column
    pub inserted-room : length xs < most
    inserted-room = omega (
      arith,
      few_before (insert (map f xs) i (f x)) w with_it.rising with_it.narrow,
      insert_length (map f xs) i (f x) place.within,
      length-map xs f,
      kept.room,
    )

    pub inserted-kept : (new : List A) → new ≡ insert xs i x → IsKeptRow p w most (map f new)
    inserted-kept new is = record {
      row = subst (IsEntryRow p w) (sym (ap (map f) is ∙ map-insert f xs i x)) with_it;
      room = kept.room;
      few = kept.few;
    }

    pub inserted-numbers : (new : List A) → new ≡ insert xs i x → (j : ℕ) →
        number_at (map f new) j ≡ cond (eqb j (f x).column) (f x).number (number_at (map f xs) j)
    inserted-numbers new is j = ap (λ ys. number_at ys j) (ap (map f) is ∙ map-insert f xs i x)
        ∙ inserted-number (map f xs) i (f x).column (f x).number j place.within none

  module _ (i : ℕ) (low : i < length xs) (new : List A) (is : new ≡ remove xs i) where
    pub removed-kept : IsKeptRow p w most (map f new)
    removed-kept = record {
      row = subst (IsEntryRow p w) (sym (ap (map f) is ∙ map-remove f xs i))
          (removed-row p w (map f xs) i kept.row (omega (arith, low, length-map xs f)));
      room = kept.room;
      few = kept.few;
    }

    pub removed-numbers : (column : ℕ) → (item_or 0 (map f xs) i).column ≡ column → (j : ℕ) →
        number_at (map f new) j ≡ cond (eqb j column) 0 (number_at (map f xs) j)
    removed-numbers column at j = ap (λ ys. number_at ys j) (ap (map f) is ∙ map-remove f xs i)
        ∙ removed-number (map f xs) i kept.row.rising (omega (arith, low, length-map xs f)) j
        ∙ ap (λ c. cond (eqb j c) 0 (number_at (map f xs) j)) at

  -- no item stands at a column where the place from it on has another
  pub none-stands : (column i : ℕ) → IsPlaceFrom (map f xs) column i → (i < length xs → (item_or 0 (map f xs) i).column ≢ column) →
      (j : ℕ) → number_at (map f xs) j ≡ cond (eqb j column) 0 (number_at (map f xs) j)
  none-stands column i place other j = elim (nat_cases j column) [
    | inl q ↦
        subst (λ k. number_at (map f xs) k ≡ cond (eqb k column) 0 (number_at (map f xs) k)) (sym q)
        (number-absent (map f xs) column apart ∙ sym (hit column (number_at (map f xs) column)))
    | inr ne ↦ sym (miss j column (number_at (map f xs) j) ne)
  ]
    where
      hit : (c n : ℕ) → cond (eqb c c) 0 n ≡ 0
      hit c n = grind (arith, nat_tests)

      miss : (j c n : ℕ) → j ≢ c → cond (eqb j c) 0 n ≡ n
      miss j c n ne = grind (arith, nat_tests)

      apart : (t : ℕ) → t < length (map f xs) → (item_or 0 (map f xs) t).column ≢ column
      apart t tl q = elim (lt_or_past t i) [
        | inl less ↦ absurd (omega (arith, place.before t less, q))
        | inr le ↦ elim (nat_cases t i) [
          | inl same ↦ other (omega (arith, tl, same, length-map xs f)) (ap (λ k. (item_or 0 (map f xs) k).column) (sym same) ∙ q)
          | inr later ↦
              let low : i < length (map f xs) = omega (arith, tl, le, later) in
              absurd (omega (arith, place.behind i (omega arith) low, kept.row.rising i t (omega (arith, le, later)) tl, q))
        ]
      ]

module _ {T : Type 0} (number : T → ℕ) (p w most v : ℕ) (es new : List (Entry T)) (kept : IsKeptRow p w most (items number es)) where
  pub raised-items : new ≡ map (entry_moved (skip v)) es → items number new ≡ columns_raised v (items number es)
  raised-items is = ap (items number) is ∙ items-moved number (skip v) es

  pub raised-kept : new ≡ map (entry_moved (skip v)) es → w < most → w < 8192 → IsKeptRow p (w + 1) most (items number new)
  raised-kept is room few = record {
    row = subst (IsEntryRow p (w + 1)) (sym (raised-items is)) (raised-row p w v (items number es) kept.row);
    room = omega (arith, room);
    few = omega (arith, few);
  }

  lowered-items : new ≡ map (entry_moved (unskip v)) es → items number new ≡ columns_lowered v (items number es)
  lowered-items is = ap (items number) is ∙ items-moved number (unskip v) es

  pub lowered-kept : new ≡ map (entry_moved (unskip v)) es → v < w → number_at (items number es) v ≡ 0 →
      IsKeptRow p (w - 1) most (items number new)
  lowered-kept is vl none = record {
    row = subst (IsEntryRow p (w - 1)) (sym (lowered-items is)) (lowered-row p w v (items number es) kept.row vl none);
    room = omega (arith, kept.room);
    few = omega (arith, kept.few);
  }

  pub lowered-numbers : new ≡ map (entry_moved (unskip v)) es → number_at (items number es) v ≡ 0 → (j : ℕ) →
      number_at (items number new) j ≡ number_at (items number es) (skip v j)
  lowered-numbers is none j = ap (λ ys. number_at ys j) (lowered-items is) ∙ lowered-number p w v (items number es) kept.row none j
