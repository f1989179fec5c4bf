-- The items of lower lists, list by list.
use Rattle.std.proofs.Common.{◌≡◌, ℕ, ◌+◌, ◌-◌, ◌<◌, ◌≤◌, ◌⊎◌, Bool, true, false, ◌&&◌, eqb, List, [], ◌∷◌, ◌++◌}
use Rattle.std.proofs.Common.{length, map, slice_index_or, inl, inr, refl, ap, sym, subst, ◌∙◌, arith}
use Rattle.std.specs.List.{All}
use Rattle.std.proofs.lemmas.List.{get_or-map, get_or_append_left, get_or-append_right, get_or_past, length-append, length-map}
use Rattle.std.proofs.lemmas.List.Elements.{All-append}
use Rattle.residue_theory.proofs.SetLaws.{differ, both_true, both-first, both-second, either_cases, either-first, either-second, eqb_true, eqb_from, lt_cases}
use Rattle.residue_theory.proofs.SumLaws.{nat_cases}
use Rattle.residue_theory.specs.Sets.{has}
use Rattle.cert_text.specs.Ranges.{AreRising}
use Rattle.cert_text.specs.declared.part.CcfBlock.{CcfBlock}
use Rattle.part_rules.specs.Listed.{arc_in}
use Rattle.part_checker.specs.Items.{AreItems, items_of, lower_in}

either-in : (xs ys : List (ℕ × ℕ)) (l k : ℕ) → arc_in (xs ++ ys) l k ≡ true → (arc_in xs l k ≡ true) ⊎ (arc_in ys l k ≡ true)
either-in [] ys l k h = inr h
either-in (x ∷ xs) ys l k h = elim (either_cases (eqb x.0 l && eqb x.1 k) (arc_in (xs ++ ys) l k) h) [
  | inl here ↦ inl (either-first (eqb x.0 l && eqb x.1 k) (arc_in xs l k) here)
  | inr later ↦ elim (either-in xs ys l k later) [
    | inl first ↦ inl (either-second (eqb x.0 l && eqb x.1 k) (arc_in xs l k) first)
    | inr second ↦ inr second
  ]
]

in-first : (xs ys : List (ℕ × ℕ)) (l k : ℕ) → arc_in xs l k ≡ true → arc_in (xs ++ ys) l k ≡ true
in-first [] ys l k h = absurd (differ refl h)
in-first (x ∷ xs) ys l k h = elim (either_cases (eqb x.0 l && eqb x.1 k) (arc_in xs l k) h) [
  | inl here ↦ either-first (eqb x.0 l && eqb x.1 k) (arc_in (xs ++ ys) l k) here
  | inr later ↦ either-second (eqb x.0 l && eqb x.1 k) (arc_in (xs ++ ys) l k) (in-first xs ys l k later)
]

in-second : (xs ys : List (ℕ × ℕ)) (l k : ℕ) → arc_in ys l k ≡ true → arc_in (xs ++ ys) l k ≡ true
in-second [] ys l k h = h
in-second (x ∷ xs) ys l k h = either-second (eqb x.0 l && eqb x.1 k) (arc_in (xs ++ ys) l k) (in-second xs ys l k h)

-- what the items of one list tell
item-told : (n : ℕ) (list : List ℕ) (l k : ℕ) → arc_in (items_of n list) l k ≡ true → (n ≡ l) × (has list k ≡ true)
item-told n [] l k h = absurd (differ refl h)
item-told n (m ∷ list) l k h = elim (either_cases (eqb n l && eqb m k) (arc_in (items_of n list) l k) h) [
  | inl here ↦ (eqb_true n l (both-first (eqb n l) (eqb m k) here), either-first (eqb m k) (has list k) (both-second (eqb n l) (eqb m k) here))
  | inr later ↦ let rest = item-told n list l k later in (rest.0, either-second (eqb m k) (has list k) rest.1)
]

told-item : (n : ℕ) (list : List ℕ) (k : ℕ) → has list k ≡ true → arc_in (items_of n list) n k ≡ true
told-item n [] k h = absurd (differ refl h)
told-item n (m ∷ list) k h = elim (either_cases (eqb m k) (has list k) h) [
  | inl here ↦ either-first (eqb n n && eqb m k) (arc_in (items_of n list) n k) (both_true (eqb n n) (eqb m k) (eqb_from n n refl) here)
  | inr later ↦ either-second (eqb n n && eqb m k) (arc_in (items_of n list) n k) (told-item n list k later)
]

item-at : (n : ℕ) (list : List ℕ) (i : ℕ) (d : ℕ × ℕ) → i < length (items_of n list) → slice_index_or (items_of n list) i d ≡ (n, slice_index_or list i 0)
item-at n list i d low = get_or-map (λ (m : ℕ). (n, m)) list i 0 d (subst (λ l. i < l) (length-map list (λ (m : ℕ). (n, m))) low)

pub items-none : (blocks : List CcfBlock) → AreItems blocks 0 []
items-none blocks = record {
  are = record { within = λ k d low. absurd (omega (arith, low)); rising = λ i j less low. absurd (omega (arith, low)) };
  tells = λ l k. ((λ h. absurd (differ refl h)), (λ h. absurd (omega (arith, h.0))));
}

module _ (blocks : List CcfBlock) (n : ℕ) (items : List (ℕ × ℕ)) (list : List ℕ) (before : AreItems blocks n items) (rising : AreRising n list) where
  first : (i : ℕ) → i < length items → slice_index_or (items ++ items_of n list) i (0, 0) ≡ slice_index_or items i (0, 0)
  first i low = get_or_append_left items (items_of n list) (0, 0) i low

  second : (i : ℕ) → length items ≤ i → i < length (items ++ items_of n list) → (slice_index_or (items ++ items_of n list) i (0, 0)).0 ≡ n
  second i high low =
      let long : length (items ++ items_of n list) ≡ length items + length (items_of n list) = length-append items (items_of n list) in
      ap (λ e. e.0) (get_or-append_right items (items_of n list) (length items) i (0, 0) refl high
      ∙ item-at n list (i - length items) (0, 0) (omega (arith, long, high, low)))

  more-rising : (i j : ℕ) → i < j → j < length (items ++ items_of n list) →
      (slice_index_or (items ++ items_of n list) i (0, 0)).0 ≤ (slice_index_or (items ++ items_of n list) j (0, 0)).0
  more-rising i j less low = elim (lt_cases j (length items)) [
    | inl early ↦ subst (λ e. e.0 ≤ (slice_index_or (items ++ items_of n list) j (0, 0)).0) (sym (first i (omega (arith, less, early))))
        (subst (λ e. (slice_index_or items i (0, 0)).0 ≤ e.0) (sym (first j early)) (before.are.rising i j less early))
    | inr late ↦ let top : (slice_index_or (items ++ items_of n list) j (0, 0)).0 ≡ n = second j late low in elim (lt_cases i (length items)) [
      | inl early ↦ let below : (slice_index_or items i (0, 0)).0 < n = (before.are.within i (0, 0) early).0 in
          let same : (slice_index_or (items ++ items_of n list) i (0, 0)).0 ≡ (slice_index_or items i (0, 0)).0 = ap (λ e. e.0) (first i early) in
          omega (arith, top, below, same)
      | inr later ↦ let same : (slice_index_or (items ++ items_of n list) i (0, 0)).0 ≡ n =
          second i later (omega (arith, less, low)) in omega (arith, top, same)
    ]
  ]

  within-old : All (λ item. (item.0 < n + 1) × (item.1 < item.0)) items
  within-old k d low = let old = before.are.within k d low in (omega (arith, old.0), old.1)

  within-new : All (λ item. (item.0 < n + 1) × (item.1 < item.0)) (items_of n list)
  within-new k d low =
      let low' : k < length list = subst (λ l. k < l) (length-map list (λ (m : ℕ). (n, m))) low in
      let below : slice_index_or list k 0 < n = rising.below k 0 low' in
      subst (λ (item : ℕ × ℕ). (item.0 < n + 1) × (item.1 < item.0)) (sym (item-at n list k d low)) (omega arith, below)

  pub items-more : n < length blocks → ((d : CcfBlock) → list ≡ (slice_index_or blocks n d).lower) → AreItems blocks (n + 1) (items ++ items_of n list)
  items-more low is = record {
    are = record {
      within = All-append (λ (item : ℕ × ℕ). (item.0 < n + 1) × (item.1 < item.0)) items (items_of n list) within-old within-new;
      rising = more-rising;
    };
    tells = λ l k. (told l k, tell l k);
  }
    where
      nothing : CcfBlock
      nothing = record { part = record { columns = []; q_rows = []; t_rows = [] }; lower = [] }

      row : slice_index_or (map (λ (block : CcfBlock). block.lower) blocks) n [] ≡ list
      row = get_or-map (λ (block : CcfBlock). block.lower) blocks n nothing [] low ∙ sym (is nothing)

      told : (l k : ℕ) → arc_in (items ++ items_of n list) l k ≡ true → (l < n + 1) × (lower_in blocks l k ≡ true)
      told l k h = elim (either-in items (items_of n list) l k h) [
        | inl old ↦ let was = (before.tells l k).0 old in (omega (arith, was.0), was.1)
        | inr new ↦ let here = item-told n list l k new in
            (omega (arith, here.0), subst (λ v. lower_in blocks v k ≡ true) here.0 (subst (λ r. has r k ≡ true) (sym row) here.1))
      ]

      tell : (l k : ℕ) → ((l < n + 1) × (lower_in blocks l k ≡ true)) → arc_in (items ++ items_of n list) l k ≡ true
      tell l k h = elim (nat_cases l n) [
        | inl same ↦ subst (λ v. arc_in (items ++ items_of n list) v k ≡ true) (sym same)
            (in-second items (items_of n list) n k
            (told-item n list k (subst (λ r. has r k ≡ true) row (subst (λ v. lower_in blocks v k ≡ true) same h.1))))
        | inr less ↦ in-first items (items_of n list) l k ((before.tells l k).1 (omega (arith, h.0, less), h.1))
      ]

-- the items of all lists tell which block is in which list
pub items-lower : (blocks : List CcfBlock) (items : List (ℕ × ℕ)) → AreItems blocks (length blocks) items → (l k : ℕ) → arc_in items l k ≡ lower_in blocks l k
items-lower blocks items all l k = same-tests (arc_in items l k) (lower_in blocks l k) (λ h. ((all.tells l k).0 h).1) (λ h. (all.tells l k).1 (within h, h))
  where
    same-tests : (a b : Bool) → (a ≡ true → b ≡ true) → (b ≡ true → a ≡ true) → a ≡ b
    same-tests true b to from = sym (to refl)
    same-tests false true to from = from refl
    same-tests false false to from = refl

    within : lower_in blocks l k ≡ true → l < length blocks
    within h = elim (lt_cases l (length blocks)) [
      | inl low ↦ low
      | inr high ↦
          let past : slice_index_or (map (λ (block : CcfBlock). block.lower) blocks) l [] ≡ [] =
          get_or_past (map (λ (block : CcfBlock). block.lower) blocks) l []
          (subst (λ m. m ≤ l) (sym (length-map blocks (λ (block : CcfBlock). block.lower))) high) in
          absurd (differ refl (subst (λ list. has list k ≡ true) past h))
    ]
