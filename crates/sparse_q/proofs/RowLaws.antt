-- Rows of items as they are stored, and sums item by item.
use Rattle.std.proofs.Common.{◌≡◌, ℕ, suc, ◌+◌, ◌*◌, ◌%◌, ◌<◌, ◌≤◌, ◌≢◌, ◌⊎◌, inl, inr, Bool, true, false, cond, eqb, List}
use Rattle.std.proofs.Common.{[], ◌∷◌, ◌++◌, take, length, map, slice_index_or, slice_set, ap, sym, subst, ◌∙◌, arith}
use Rattle.std.proofs.Math.Nat.{zero-mod, mod-eq_of_lt, mod-add-mod, add-mod-mod}
use Rattle.std.proofs.lemmas.List.{take_all, get_or_default, length-map, map-append, get_or-map, ext_get_or, length-set}
use Rattle.std.proofs.lemmas.List.{get_or-set_same, get_or-set_other, map-set}
use Rattle.std.proofs.lemmas.Bool.Decides.{nat_tests}
use Rattle.residue_theory.proofs.SumLaws.{nat_cases}
use Rattle.residue_theory.specs.Residues.{IsPrime}
use Rattle.residue_theory.proofs.ResidueLaws.{vanishes_factor}
use Rattle.sparse_q.specs.Rows.{Item, Row, number_at, item_or, EndsBefore, IsRising, IsEntryRow, with_last, IsSum, IsMultiple, IsMerged}
use Rattle.sparse_q.specs.Storage.{IsKeptRow}
pub use Rattle.row_entries.proofs.RowLaws.{item, number-push, number-last, number-absent, number-before, rising-rest}
pub use Rattle.row_entries.proofs.RowLaws.{number-here, number-below, either, last-before, pushed-row, few_before}
pub use Rattle.row_entries.proofs.RowLaws.{next-above, lt_or_past, place-within, column-narrow, number-narrow, number-taken}
pub use Rattle.row_entries.proofs.RowLaws.{columns-rise, place-found, at-absent, at-here, next-none, next-least}

-- ---- a row as it is stored
-- there are no more items than columns
pub kept-items : (p w room : ℕ) (xs : List Item) → IsKeptRow p w room xs → length xs ≤ 8192
kept-items p w room xs kept = omega (arith, kept.few, few_before xs w kept.row.rising kept.row.narrow)

pub row-within : {A : Type 0} (f : A → Item) (p w : ℕ) (xs : List A) → IsEntryRow p w (map f xs) → length xs ≤ w
row-within f p w xs row = omega (arith, length-map xs f, few_before (map f xs) w row.rising row.narrow)

module _ {A : Type 0} (f : A → Item) (p w room : ℕ) (old : List A) (kept : IsKeptRow p w room (map f old)) where
  -- there is room for an item behind the last one
  pub kept-room : (c : ℕ) → EndsBefore (map f old) c → c < w → length old < room
  kept-room c before less = omega (arith, kept.room, length-map old f, few_before (map f old) c kept.row.rising before)

  pub kept-pushed : (now : ℕ) (new : List A) (x : A) → new ≡ old ++ x ∷ [] → now ≡ room → EndsBefore (map f old)
      (f x).column → (f x).column < w → (f x).number ≢ 0 → (f x).number < p → IsKeptRow p w now (map f new)
  kept-pushed now new x e same before less ne below = record {
    row = subst (λ xs. IsEntryRow p w xs) (sym (ap (λ xs. map f xs) e ∙ map-append f old (x ∷ [])))
        (pushed-row p w (map f old) (f x).column (f x).number kept.row before less ne below);
    room = omega (arith, kept.room);
    few = kept.few;
  }

-- ---- sums item by item
-- one more number v at column c, where x and k * y stand
sum-step : (p k o a b c j x y v : ℕ) → v ≡ (x + k * y) % p → (c ≡ j → o ≡ 0) → o ≡ (a + k * b) % p →
    o + cond (eqb c j) v 0 ≡ (a + cond (eqb c j) x 0 + k * (b + cond (eqb c j) y 0)) % p
sum-step p k o a b c j x y v is none so_far = elim (nat_cases c j) [
  | inl q ↦
      ap (λ z. z + cond (eqb c j) v 0) (none q)
      ∙ (let e : 0 + cond (eqb c j) v 0 ≡ cond (eqb c j) v 0 = omega arith in e) ∙ hit q v ∙ is
      ∙ ap (λ z. z % p) (let e : x + k * y ≡ 0 + (x + k * y) = omega arith in e)
      ∙ ap (λ z. (z + (x + k * y)) % p) (sym (none q) ∙ so_far) ∙ mod-add-mod (a + k * b) p (x + k * y)
      ∙ ap (λ z. z % p) (let e : a + k * b + (x + k * y) ≡ a + x + k * (b + y) = omega arith in e)
      ∙ ap (λ z. (a + z + k * (b + y)) % p) (sym (hit q x)) ∙ ap (λ z. (a + cond (eqb c j) x 0 + k * (b + z)) % p)
      (sym (hit q y))
  | inr ne ↦
      ap (λ z. o + z) (miss ne v) ∙ (let e : o + 0 ≡ o = omega arith in e) ∙ so_far
      ∙ ap (λ z. z % p) (let e : a + k * b ≡ a + 0 + k * (b + 0) = omega arith in e)
      ∙ ap (λ z. (a + z + k * (b + 0)) % p) (sym (miss ne x)) ∙ ap (λ z. (a + cond (eqb c j) x 0 + k * (b + z)) % p)
      (sym (miss ne y))
]
  where
    hit : c ≡ j → (z : ℕ) → cond (eqb c j) z 0 ≡ z
    hit q z = grind (arith, nat_tests)

    miss : c ≢ j → (z : ℕ) → cond (eqb c j) z 0 ≡ 0
    miss ne z = grind (arith, nat_tests)

plus_zero : (b : Bool) (m : ℕ) → m ≡ m + cond b 0 0
plus_zero true m = omega arith
plus_zero false m = omega arith

module _ (p k w : ℕ) (xs ys out : List Item) (i t : ℕ) (first : IsEntryRow p w xs) (second : IsEntryRow p w ys)
    (so_far : IsMerged p k w xs ys out i t) where
  -- v goes to column e, where x stands in xs and y in ys
  merged-step : (u s e x y v : ℕ) → u ≤ length xs → s ≤ length ys → EndsBefore out e → e < (item_or w xs u).column →
      e < (item_or w ys s).column →
      ((j : ℕ) → number_at (take u xs) j ≡ number_at (take i xs) j + cond (eqb e j) x 0) →
      ((j : ℕ) → number_at (take s ys) j ≡ number_at (take t ys) j + cond (eqb e j) y 0) → v ≡ (x + k * y) % p →
      IsMerged p k w xs ys (with_last out e v) u s
  merged-step u s e x y v ul sl before first_less second_less first_is second_is is = record {
    first_place = ul;
    second_place = sl;
    sums = λ j.
        number-last out e v j
        ∙ sum-step p k (number_at out j) (number_at (take i xs) j) (number_at (take t ys) j) e j x y v is
        (λ q. number-before out e j before (omega arith)) (so_far.sums j)
        ∙ ap (λ z. (z + k * (number_at (take t ys) j + cond (eqb e j) y 0)) % p) (sym (first_is j))
        ∙ ap (λ z. (number_at (take u xs) j + k * z) % p) (sym (second_is j));
    before_first = last-before out e v (item_or w xs u).column before first_less;
    before_second = last-before out e v (item_or w ys s).column before second_less;
  }

  -- the next item is one of xs
  pub merged-first : (c v : ℕ) → c ≡ (item_or w xs i).column → c < (item_or w ys t).column →
      v ≡ (item_or w xs i).number → IsMerged p k w xs ys (with_last out c v) (i + 1) t
  merged-first c v here less is = merged-step (i + 1) t c v 0 v (omega (arith, inside)) so_far.second_place
      (subst (λ e. EndsBefore out e) (sym here) so_far.before_first)
      (subst (λ e. e < (item_or w xs (i + 1)).column) (sym here) (next-above p w xs i first inside)) less
      (λ j. subst (λ e. number_at (take (i + 1) xs) j ≡ number_at (take i xs) j + cond (eqb e j) v 0) (sym here)
      (subst (λ n. number_at (take (i + 1) xs) j ≡ number_at (take i xs) j + cond (eqb (item_or w xs i).column j)
      n 0) (sym is) (number-taken w xs i j inside)))
      (λ j. plus_zero (eqb c j) (number_at (take t ys) j))
      (sym (mod-eq_of_lt below) ∙ ap (λ z. z % p) (omega arith))
    where
      inside : i < length xs
      inside = place-within w xs i (let narrow : (item_or w ys t).column ≤ w = column-narrow p w ys t second in omega
          arith)

      below : v < p
      below = subst (λ n. n < p) (sym is) (number-narrow p w xs i first inside)

  -- it is one of ys
  pub merged-second : (c v y : ℕ) → c ≡ (item_or w ys t).column → c < (item_or w xs i).column →
      y ≡ (item_or w ys t).number → v ≡ (k * y) % p → IsMerged p k w xs ys (with_last out c v) i (t + 1)
  merged-second c v y here less number_is is = merged-step i (t + 1) c 0 y v so_far.first_place
      (omega (arith, inside)) (subst (λ e. EndsBefore out e) (sym here) so_far.before_second) less
      (subst (λ e. e < (item_or w ys (t + 1)).column) (sym here) (next-above p w ys t second inside))
      (λ j. plus_zero (eqb c j) (number_at (take i xs) j))
      (λ j. subst (λ e. number_at (take (t + 1) ys) j ≡ number_at (take t ys) j + cond (eqb e j) y 0) (sym here)
      (subst (λ n. number_at (take (t + 1) ys) j ≡ number_at (take t ys) j + cond (eqb (item_or w ys t).column j)
      n 0) (sym number_is) (number-taken w ys t j inside)))
      (is ∙ ap (λ z. z % p) (omega arith))
    where
      inside : t < length ys
      inside = place-within w ys t (let narrow : (item_or w xs i).column ≤ w = column-narrow p w xs i first in omega
          arith)

  -- both have an item at the next column
  pub merged-both : (c x y m v : ℕ) → c ≡ (item_or w xs i).column → c ≡ (item_or w ys t).column → c < w →
      x ≡ (item_or w xs i).number → y ≡ (item_or w ys t).number → m ≡ (k * y) % p → v ≡ (x + m) % p →
      IsMerged p k w xs ys (with_last out c v) (i + 1) (t + 1)
  merged-both c x y m v here there less x_is y_is m_is is = merged-step (i + 1) (t + 1) c x y v
      (omega (arith, first_inside)) (omega (arith, second_inside)) (subst (λ e. EndsBefore out e) (sym here)
      so_far.before_first)
      (subst (λ e. e < (item_or w xs (i + 1)).column) (sym here) (next-above p w xs i first first_inside))
      (subst (λ e. e < (item_or w ys (t + 1)).column) (sym there) (next-above p w ys t second second_inside))
      (λ j. subst (λ e. number_at (take (i + 1) xs) j ≡ number_at (take i xs) j + cond (eqb e j) x 0) (sym here)
      (subst (λ n. number_at (take (i + 1) xs) j ≡ number_at (take i xs) j + cond (eqb (item_or w xs i).column j)
      n 0) (sym x_is) (number-taken w xs i j first_inside)))
      (λ j. subst (λ e. number_at (take (t + 1) ys) j ≡ number_at (take t ys) j + cond (eqb e j) y 0) (sym there)
      (subst (λ n. number_at (take (t + 1) ys) j ≡ number_at (take t ys) j + cond (eqb (item_or w ys t).column j)
      n 0) (sym y_is) (number-taken w ys t j second_inside)))
      (is ∙ ap (λ z. (x + z) % p) m_is ∙ add-mod-mod x (k * y) p)
    where
      first_inside : i < length xs
      first_inside = place-within w xs i (omega arith)

      second_inside : t < length ys
      second_inside = place-within w ys t (omega arith)

-- before the first item, and behind the last
pub merged-none : (p k w : ℕ) (xs ys : List Item) → IsMerged p k w xs ys [] 0 0
merged-none p k w xs ys = record {
  first_place = omega arith;
  second_place = omega arith;
  sums = λ j. sym (zero-mod p) ∙ ap (λ z. z % p) (omega arith);
  before_first = λ i l. absurd (omega arith);
  before_second = λ i l. absurd (omega arith);
}

pub merged-all : (p k w : ℕ) (xs ys out : List Item) (i t : ℕ) → IsMerged p k w xs ys out i t → length xs ≤ i →
    length ys ≤ t → IsSum p k xs ys out
merged-all p k w xs ys out i t merged first second j =
    merged.sums j ∙ ap (λ zs. (number_at zs j + k * number_at (take t ys) j) % p) (take_all i xs first)
    ∙ ap (λ zs. (number_at xs j + k * number_at zs j) % p) (take_all t ys second)

-- ---- the next item, as the code finds it: `first` and `second` are the columns that come next
module _ (p k w fw sw : ℕ) (xs ys out : List Item) (i t c d : ℕ) (fw_is : fw ≡ w) (sw_is : sw ≡ w)
    (xs_row : IsEntryRow p fw xs) (ys_row : IsEntryRow p sw ys)
    (more : (i < length xs) ⊎ (t < length ys)) (so_far : IsMerged p k w xs ys out i t)
    (c_is : c ≡ (item_or fw xs i).column) (d_is : d ≡ (item_or sw ys t).column) where
  first_row : IsEntryRow p w xs
  first_row = subst (λ u. IsEntryRow p u xs) fw_is xs_row

  second_row : IsEntryRow p w ys
  second_row = subst (λ u. IsEntryRow p u ys) sw_is ys_row

  here : c ≡ (item_or w xs i).column
  here = subst (λ u. c ≡ (item_or u xs i).column) fw_is c_is

  there : d ≡ (item_or w ys t).column
  there = subst (λ u. d ≡ (item_or u ys t).column) sw_is d_is

  inside-narrow : i < length xs → c < w
  inside-narrow l = subst (λ e. e < w) (sym here)
      (subst (λ x. x.column < w) (get_or_default xs i (item 0 0) (item w 0) l) (first_row.narrow i l))

  second-narrow : t < length ys → d < w
  second-narrow l = subst (λ e. e < w) (sym there)
      (subst (λ x. x.column < w) (get_or_default ys t (item 0 0) (item w 0) l) (second_row.narrow t l))

  most : d ≤ w
  most = subst (λ e. e ≤ w) (sym there) (column-narrow p w ys t second_row)

  pub first-inside : c < d → i < length xs
  first-inside less = place-within w xs i (subst (λ e. e < w) here (let narrow : d ≤ w = most in omega arith))

  pub first-narrow : c < d → c < w
  first-narrow less = inside-narrow (first-inside less)

  -- where the second column is no further, it is that of an item
  pub second-below : d ≤ c → d < w
  second-below le = elim more [
    | inl l ↦ let less : c < w = inside-narrow l in omega arith
    | inr l ↦ second-narrow l
  ]

  pub second-inside : d ≤ c → t < length ys
  second-inside le = place-within w ys t (subst (λ e. e < w) there (second-below le))

  pub both-inside : d ≤ c → c ≤ d → i < length xs
  both-inside le ge = place-within w xs i (subst (λ e. e < w) here (let less : d < w = second-below le in omega arith))

  pub put-first : (v u o : ℕ) (now : Row) → now ≡ record { width = u; room = o; items = with_last out c v } → c < d →
      v ≡ (item_or fw xs i).number → IsMerged p k w xs ys now.items (i + 1) t
  put-first v u o now e less is = subst (λ zs. IsMerged p k w xs ys zs (i + 1) t) (sym (ap (λ (r : Row). r.items) e))
      (merged-first p k w xs ys out i t first_row second_row so_far c v here (subst (λ b. c < b) there less)
      (subst (λ b. v ≡ (item_or b xs i).number) fw_is is))

  pub put-second : (y v u o : ℕ) (now : Row) → now ≡ record { width = u; room = o; items = with_last out d v } → d < c →
      y ≡ (item_or sw ys t).number → v ≡ (k * y) % p → IsMerged p k w xs ys now.items i (t + 1)
  put-second y v u o now e less y_is is = subst (λ zs. IsMerged p k w xs ys zs i (t + 1))
      (sym (ap (λ (r : Row). r.items) e))
      (merged-second p k w xs ys out i t first_row second_row so_far d v y there (subst (λ b. d < b) here less)
      (subst (λ b. y ≡ (item_or b ys t).number) sw_is y_is) is)

  pub put-both : (x y m v u o : ℕ) (now : Row) → now ≡ record { width = u; room = o; items = with_last out c v } → d ≤ c → c ≤ d →
      x ≡ (item_or fw xs i).number → y ≡ (item_or sw ys t).number → m ≡ (k * y) % p → v ≡ (x + m) % p →
      IsMerged p k w xs ys now.items (i + 1) (t + 1)
  put-both x y m v u o now e le ge x_is y_is m_is is = subst (λ zs. IsMerged p k w xs ys zs (i + 1) (t + 1))
      (sym (ap (λ (r : Row). r.items) e))
      (merged-both p k w xs ys out i t first_row second_row so_far c x y m v here
      (let same : c ≡ d = omega arith in same ∙ there) (let less : d < w = second-below le in omega arith)
      (subst (λ b. x ≡ (item_or b xs i).number) fw_is x_is) (subst (λ b. y ≡ (item_or b ys t).number) sw_is y_is) m_is
      is)

-- ---- a row times a factor
abbrev pub times : ℕ → ℕ → Item → Item
times p k x = item x.column (k * x.number % p)

pub times-number : (p k : ℕ) (xs : List Item) (j : ℕ) → IsRising xs → number_at (map (times p k) xs) j ≡ k * number_at
    xs j % p
times-number p k [] j rising = sym (zero-mod p) ∙ ap (λ z. z % p) (omega arith)
times-number p k (x ∷ xs) j rising = elim (nat_cases x.column j) [
  | inl q ↦
      ap (λ z. cond (eqb x.column j) (k * x.number % p) 0 + z) (times-number p k xs j (rising-rest x xs rising)
      ∙ ap (λ z. k * z % p) (none q))
      ∙ ap (λ z. z + k * 0 % p) (hit q (k * x.number % p)) ∙ ap (λ z. k * x.number % p + z)
      (ap (λ z. z % p) (let e : k * 0 ≡ 0 = omega arith in e) ∙ zero-mod p)
      ∙ (let e : k * x.number % p + 0 ≡ k * x.number % p = omega arith in e)
      ∙ ap (λ z. k * z % p) (sym (ap (λ z. cond (eqb x.column j) x.number 0 + z) (none q)
      ∙ ap (λ z. z + 0) (hit q x.number) ∙ (let e : x.number + 0 ≡ x.number = omega arith in e)))
  | inr ne ↦
      ap (λ z. cond (eqb x.column j) (k * x.number % p) 0 + z) (times-number p k xs j (rising-rest x xs rising))
      ∙ ap (λ z. z + k * number_at xs j % p) (miss ne (k * x.number % p))
      ∙ (let e : 0 + k * number_at xs j % p ≡ k * number_at xs j % p = omega arith in e)
      ∙ ap (λ z. k * z % p) (sym (ap (λ z. z + number_at xs j) (miss ne x.number)
      ∙ (let e : 0 + number_at xs j ≡ number_at xs j = omega arith in e)))
]
  where
    none : x.column ≡ j → number_at xs j ≡ 0
    none q = number-absent xs j (λ i l s. let far : x.column < (item_or 0 xs i).column = rising 0 (suc i)
        (omega arith) (omega arith) in omega arith)

    hit : x.column ≡ j → (z : ℕ) → cond (eqb x.column j) z 0 ≡ z
    hit q z = grind (arith, nat_tests)

    miss : x.column ≢ j → (z : ℕ) → cond (eqb x.column j) z 0 ≡ 0
    miss ne z = grind (arith, nat_tests)

-- the row whose items are those of xs times k
module _ (p : ℕ) (prime : IsPrime p) (k w : ℕ) (xs ys : List Item) (factor : k ≢ 0) (narrow : k < p)
    (row : IsEntryRow p w xs) (len : length ys ≡ length xs)
    (is : (i : ℕ) → i < length xs → item_or 0 ys i ≡ times p k (item_or 0 xs i)) where
  pub times-row : IsEntryRow p w ys
  times-row = record {
    rising = λ i j l jl. subst (λ x. x.column < (item_or 0 ys j).column) (sym (is i (omega arith)))
        (subst (λ x. (item_or 0 xs i).column < x.column) (sym (is j (omega arith))) (row.rising i j l (omega arith)));
    narrow = λ i l. subst (λ x. x.column < w) (sym (is i (omega arith))) (row.narrow i (omega arith));
    some = λ i l. subst (λ x. x.number ≢ 0) (sym (is i (omega arith))) (λ z. row.some i (omega arith)
        (sym (mod-eq_of_lt (row.below i (omega arith))) ∙ vanishes_factor p prime k (item_or 0 xs i).number
        (λ e. factor (sym (mod-eq_of_lt narrow) ∙ e)) z));
    below = λ i l. subst (λ x. x.number < p) (sym (is i (omega arith))) (let positive : 1 < p = prime.above_one in
        omega arith);
  }

  same : ys ≡ map (times p k) xs
  same = ext_get_or (item 0 0) ys (map (times p k) xs) (omega (arith, length-map xs (times p k)))
      (λ i l. is i (omega arith) ∙ sym (get_or-map (times p k) xs i (item 0 0) (item 0 0) (omega arith)))

  pub times-multiple : IsMultiple p k xs ys
  times-multiple j = ap (λ zs. number_at zs j) same ∙ times-number p k xs j row.rising

-- the loop that multiplies the items, of which the first n are done
pub record IsTimesTo (p k : ℕ) (xs ys : List Item) (n : ℕ) : Type 0 where
  pub len : length ys ≡ length xs
  pub done : (i : ℕ) → i < n → i < length xs → item_or 0 ys i ≡ times p k (item_or 0 xs i)
  pub rest : (i : ℕ) → n ≤ i → item_or 0 ys i ≡ item_or 0 xs i

pub times-next : (p k : ℕ) (xs ys : List Item) (n : ℕ) (x : Item) → IsTimesTo p k xs ys n → n < length xs →
    x ≡ times p k (item_or 0 ys n) → IsTimesTo p k xs (slice_set ys n x) (n + 1)
times-next p k xs ys n x so_far l is = record {
  len = length-set ys n x ∙ so_far.len;
  done = λ i less il. elim (nat_cases i n) [
    | inl q ↦ subst (λ m. item_or 0 (slice_set ys n x) m ≡ times p k (item_or 0 xs m)) (sym q)
        (get_or-set_same ys n x (item 0 0) (omega (arith, so_far.len)) ∙ is
        ∙ ap (times p k) (so_far.rest n (omega arith)))
    | inr ne ↦ get_or-set_other ys n i x (item 0 0) ne ∙ so_far.done i (omega arith) il
  ];
  rest = λ i le. get_or-set_other ys n i x (item 0 0) (λ q. omega arith) ∙ so_far.rest i (omega arith);
}

module _ {A : Type 0} (f : A → Item) (p k : ℕ) where
  pub scaled-step : (old now : List A) (i : ℕ) (a b : A) → IsTimesTo p k (map f old) (map f now) i → i < length old →
      f b ≡ times p k (f (slice_index_or now i a)) → IsTimesTo p k (map f old) (map f (slice_set now i b)) (i + 1)
  scaled-step old now i a b so_far l is =
      subst (λ ys. IsTimesTo p k (map f old) ys (i + 1)) (sym (map-set f now i b))
      (times-next p k (map f old) (map f now) i (f b) so_far (omega (arith, length-map old f))
      (is ∙ ap (times p k) (sym (get_or-map f now i a (item 0 0)
      (omega (arith, so_far.len, length-map now f, length-map old f))))))

  module _ (prime : IsPrime p) (factor : k ≢ 0) (narrow : k < p) (w room : ℕ) (items old now : List A) (n : ℕ)
      (kept : IsKeptRow p w room (map f items)) (same : old ≡ items)
      (all : IsTimesTo p k (map f old) (map f now) n) (end : length old ≤ n) where
    of_items : IsTimesTo p k (map f items) (map f now) n
    of_items = subst (λ xs. IsTimesTo p k (map f xs) (map f now) n) same all

    each : (i : ℕ) → i < length (map f items) → item_or 0 (map f now) i ≡ times p k (item_or 0 (map f items) i)
    each i l = of_items.done i (omega (arith, length-map items f, ap (λ xs. length xs) same)) l

    pub scaled-kept : (out : List A) → out ≡ now → IsKeptRow p w room (map f out)
    scaled-kept out e = subst (λ xs. IsKeptRow p w room (map f xs)) (sym e)
        (record {
          row = times-row p prime k w (map f items) (map f now) factor narrow kept.row of_items.len each;
          room = kept.room;
          few = kept.few;
        })

    pub scaled-multiple : (o : ℕ) (before : Row) (out : List A) → record { width = w; room = o; items = map f items } ≡ before →
        out ≡ now → IsMultiple p k before.items (map f out)
    scaled-multiple o before out view e = subst (λ (r : Row). IsMultiple p k r.items (map f out)) view
        (subst (λ xs. IsMultiple p k (map f items) (map f xs)) (sym e) (times-multiple p prime k w (map f items)
        (map f now) factor narrow kept.row of_items.len each))
