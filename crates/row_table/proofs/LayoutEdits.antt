-- The places of the columns as lists, in which rows and columns come and go.
use Rattle.std.proofs.Common.{◌≡◌, ℕ, ◌+◌, ◌-◌, ◌<◌, ◌≤◌, ◌≢◌, ◌⊎◌, Bool, true, false, cond, eqb, List, [], ◌∷◌, ◌++◌, length, map, slice_index}
use Rattle.std.proofs.Common.{slice_index_or, slice_set, inl, inr, ap, sym, subst, ◌∙◌, arith}
use Rattle.std.proofs.Math.Path.{fun_ext}
use Rattle.std.proofs.lemmas.List.{get_or_past, get_or_append_left, get_or_push, get_or-map, get_or-set_same, get_or-set_other, get_or-take, length-map}
use Rattle.std.proofs.lemmas.List.{length-set, length-take, length_push}
use Rattle.std.proofs.lemmas.List.Edits.{length-insert, get_or-insert_below, get_or-insert_at, get_or-insert_above, length-remove, get_or-remove_below}
use Rattle.std.proofs.lemmas.List.Edits.{get_or-remove_above}
use Rattle.std.proofs.lemmas.Bool.Decides.{nat_tests}
use Rattle.std.specs.List.{insert, remove, swap_remove}
use Rattle.limits.specs.Limits.{column_limit}
use Rattle.linear_algebra.specs.Parts.{skip, unskip}
use Rattle.linear_algebra_laws.proofs.SkipLaws.{skip-first, skip-later}
use Rattle.residue_theory.proofs.SetLaws.{lt_cases, eqb_from}
use Rattle.residue_theory.proofs.SumLaws.{nat_cases}
use Rattle.row_table.specs.Places.{HaveSlots, last_at}
use Rattle.row_table.specs.PlaceEdits.{ArePlacedAlike, put_in, places_with_row, places_with_last_at, places_with_column, places_without_column}
use Rattle.row_table.specs.Layouts.{Layout, HasListRoom, IsLayout, all, layout_places, layout_with_column, layout_with_row, layout_without_column}
use Rattle.row_table.specs.Layouts.{layout_without_row, rows_of_layout}
use Rattle.row_table.proofs.LayoutLaws.{set-at}
use Rattle.row_table.proofs.PlaceEdits.{alike-placed, column-joins, column-leaves, last-takes, last_at-here, last_at-other, row-joins}

not-same : (x y : ℕ) → x ≢ y → eqb x y ≡ false
not-same x y ne = grind (arith, nat_tests)

unskip-first : (v c : ℕ) → c < v → unskip v c ≡ c
unskip-first v c l = grind (arith, nat_tests)

unskip-later : (v c : ℕ) → v < c → unskip v c + 1 ≡ c
unskip-later v c l = grind (arith, nat_tests)

unskip-from : (v c : ℕ) → v < c → v ≤ unskip v c
unskip-from v c l = grind (arith, nat_tests)

-- a list with an item more
pub inserted-list : {X : Type 0} (none : X) (xs : List X) (v : ℕ) (x : X) → v ≤ length xs →
    ◌≡◌ {A = ℕ → X} (λ c. slice_index_or (insert xs v x) c none) (put_in v x (λ c. slice_index_or xs c none))
inserted-list none xs v x le = fun_ext (λ c. elim (nat_cases c v) [
  | inl q ↦ ap (λ k. slice_index_or (insert xs v x) k none) q ∙ get_or-insert_at xs v x none le
      ∙ sym (ap (λ b. cond b x (slice_index_or xs (unskip v c) none)) (eqb_from c v q))
  | inr ne ↦ other c ne (lt_cases c v) ∙ sym (ap (λ b. cond b x (slice_index_or xs (unskip v c) none)) (not-same c v ne))
])
  where
    other : (c : ℕ) → c ≢ v → (c < v) ⊎ (v ≤ c) → slice_index_or (insert xs v x) c none ≡ slice_index_or xs (unskip v c) none
    other c ne (inl l) = get_or-insert_below xs v x none c l le ∙ ap (λ k. slice_index_or xs k none) (sym (unskip-first v c l))
    other c ne (inr h) = ap (λ k. slice_index_or (insert xs v x) k none) (sym (unskip-later v c (omega arith)))
        ∙ get_or-insert_above xs v x none (unskip v c) (unskip-from v c (omega arith)) le

-- a list with an item less
pub removed-list : {X : Type 0} (none : X) (xs : List X) (v : ℕ) → v < length xs →
    ◌≡◌ {A = ℕ → X} (λ c. slice_index_or (remove xs v) c none) (λ c. slice_index_or xs (skip v c) none)
removed-list none xs v l = fun_ext (λ c. elim (lt_cases c v) [
  | inl less ↦ get_or-remove_below xs v none c less l ∙ ap (λ i. slice_index_or xs i none) (sym (skip-first v c less))
  | inr ge ↦ get_or-remove_above xs v none c ge l ∙ ap (λ i. slice_index_or xs i none) (sym (skip-later v c ge))
])

-- ---- a row joins
module _ (l : Layout) (v : ℕ) (laid : IsLayout l) (vl : v ≤ all l) where
  abbrev m : ℕ
  m = rows_of_layout l

  basic-pushed : (i : ℕ) → i < m + 1 → slice_index (map (skip v) l.basic ++ v ∷ []) i ≡ cond (eqb i m) v (skip v (slice_index l.basic i))
  basic-pushed i il = elim (nat_cases i m) [
    | inl q ↦ get_or_push (map (skip v) l.basic) v 0 i (length-map l.basic (skip v) ∙ sym q)
        ∙ sym (ap (λ b. cond b v (skip v (slice_index l.basic i))) (eqb_from i m q))
    | inr ne ↦ get_or_append_left (map (skip v) l.basic) (v ∷ []) 0 i (omega (arith, length-map l.basic (skip v)))
        ∙ get_or-map (skip v) l.basic i 0 0 (omega arith)
        ∙ sym (ap (λ b. cond b v (skip v (slice_index l.basic i))) (not-same i m ne))
  ]

  pub row-alike : ArePlacedAlike (m + 1) (places_with_row m v (layout_places l)) (layout_places (layout_with_row l v))
  row-alike = record {
    basic_is = basic-pushed;
    unit_is = inserted-list false l.units v true (omega (arith, laid.units_length));
    row_is = inserted-list 0 l.unit_rows v m (omega (arith, laid.rows_length));
    slot_is = inserted-list 0 l.slots v 0 (omega (arith, laid.slots_length));
  }

  pub row-laid : m < column_limit → IsLayout (layout_with_row l v)
  row-laid few = record {
    units_length = length-insert l.units v true (omega (arith, laid.units_length)) ∙ omega (arith, laid.units_length, rows-now);
    rows_length = length-insert l.unit_rows v m (omega (arith, laid.rows_length)) ∙ omega (arith, laid.rows_length, rows-now);
    slots_length = length-insert l.slots v 0 (omega (arith, laid.slots_length)) ∙ omega (arith, laid.slots_length, rows-now);
    placed = subst (λ k. HaveSlots k l.columns (l.columns + k) (layout_places (layout_with_row l v))) (sym rows-now)
        (subst (λ a. HaveSlots (m + 1) l.columns a (layout_places (layout_with_row l v)))
        (let q : all l + 1 ≡ l.columns + (m + 1) = omega arith in q)
        (alike-placed (m + 1) l.columns (all l + 1) _ _ row-alike
        (row-joins m l.columns (all l) (layout_places l) v laid.placed (omega arith))));
    narrow = laid.narrow;
    few = subst (λ k. k ≤ column_limit) (sym rows-now) (omega arith);
  }
    where
      rows-now : rows_of_layout (layout_with_row l v) ≡ m + 1
      rows-now = length_push (map (skip v) l.basic) v ∙ ap (λ k. k + 1) (length-map l.basic (skip v))

-- ---- a column joins
module _ (l : Layout) (v : ℕ) (laid : IsLayout l) (vl : v ≤ all l) where
  pub column-alike : ArePlacedAlike (rows_of_layout l) (places_with_column l.columns v (layout_places l))
      (layout_places (layout_with_column l v))
  column-alike = record {
    basic_is = λ i il. get_or-map (skip v) l.basic i 0 0 il;
    unit_is = inserted-list false l.units v false (omega (arith, laid.units_length));
    row_is = inserted-list 0 l.unit_rows v 0 (omega (arith, laid.rows_length));
    slot_is = inserted-list 0 l.slots v l.columns (omega (arith, laid.slots_length));
  }

  pub column-laid : l.columns < column_limit → IsLayout (layout_with_column l v)
  column-laid narrow = record {
    units_length = length-insert l.units v false (omega (arith, laid.units_length)) ∙ omega (arith, laid.units_length, rows-now);
    rows_length = length-insert l.unit_rows v 0 (omega (arith, laid.rows_length)) ∙ omega (arith, laid.rows_length, rows-now);
    slots_length = length-insert l.slots v l.columns (omega (arith, laid.slots_length)) ∙ omega (arith, laid.slots_length, rows-now);
    placed = subst (λ k. HaveSlots k (l.columns + 1) (l.columns + 1 + k) (layout_places (layout_with_column l v))) (sym rows-now)
        (subst (λ a. HaveSlots (rows_of_layout l) (l.columns + 1) a (layout_places (layout_with_column l v)))
        (let q : all l + 1 ≡ l.columns + 1 + rows_of_layout l = omega arith in q)
        (alike-placed (rows_of_layout l) (l.columns + 1) (all l + 1) _ _ column-alike
        (column-joins (rows_of_layout l) l.columns (all l) (layout_places l) v laid.placed (omega arith))));
    narrow = omega arith;
    few = subst (λ k. k ≤ column_limit) (sym rows-now) laid.few;
  }
    where
      rows-now : rows_of_layout (layout_with_column l v) ≡ rows_of_layout l
      rows-now = length-map l.basic (skip v)

-- ---- a column leaves
module _ (l : Layout) (v : ℕ) (laid : IsLayout l) (vl : v < all l) (free : (layout_places l).is_unit v ≡ false) where
  abbrev slot : ℕ
  slot = slice_index l.slots v

  slots-replaced : ◌≡◌ {A = ℕ → ℕ}
      (λ c. slice_index (map (λ x. cond (eqb x (l.columns - 1)) slot x) (remove l.slots v)) c)
      (λ c. cond (eqb (slice_index l.slots (skip v c)) (l.columns - 1)) slot (slice_index l.slots (skip v c)))
  slots-replaced = fun_ext (λ c. elim (lt_cases c (length (remove l.slots v))) [
    | inl less ↦ get_or-map (λ x. cond (eqb x (l.columns - 1)) slot x) (remove l.slots v) c 0 0 less
        ∙ ap (λ (f : ℕ → ℕ). cond (eqb (f c) (l.columns - 1)) slot (f c)) (removed-list 0 l.slots v (omega (arith, laid.slots_length)))
    | inr ge ↦ get_or_past (map (λ x. cond (eqb x (l.columns - 1)) slot x) (remove l.slots v)) c 0
        (omega (arith, length-map (remove l.slots v) (λ x. cond (eqb x (l.columns - 1)) slot x), ge))
        ∙ nothing (slice_index l.slots (skip v c)) (laid.placed.slot_below v vl free)
        (sym (ap (λ (f : ℕ → ℕ). f c) (removed-list 0 l.slots v (omega (arith, laid.slots_length)))) ∙ get_or_past (remove l.slots v) c 0 ge)
  ])
    where
      nothing : (x : ℕ) → slot < l.columns → x ≡ 0 → 0 ≡ cond (eqb x (l.columns - 1)) slot x
      nothing x sl q = elim (nat_cases x (l.columns - 1)) [
        | inl e ↦ (let z : 0 ≡ slot = omega arith in z) ∙ sym (ap (λ b. cond b slot x) (eqb_from x (l.columns - 1) e))
        | inr ne ↦ sym q ∙ sym (ap (λ b. cond b slot x) (not-same x (l.columns - 1) ne))
      ]

  pub column-gone-alike : ArePlacedAlike (rows_of_layout l) (places_without_column l.columns v (layout_places l))
      (layout_places (layout_without_column l v))
  column-gone-alike = record {
    basic_is = λ i il. get_or-map (unskip v) l.basic i 0 0 il;
    unit_is = removed-list false l.units v (omega (arith, laid.units_length));
    row_is = removed-list 0 l.unit_rows v (omega (arith, laid.rows_length));
    slot_is = slots-replaced;
  }

  pub column-gone-laid : IsLayout (layout_without_column l v)
  column-gone-laid = record {
    units_length = omega (arith, length-remove l.units v (omega (arith, laid.units_length)), laid.units_length, rows-now, some);
    rows_length = omega (arith, length-remove l.unit_rows v (omega (arith, laid.rows_length)), laid.rows_length, rows-now, some);
    slots_length = length-map (remove l.slots v) (λ x. cond (eqb x (l.columns - 1)) slot x)
        ∙ omega (arith, length-remove l.slots v (omega (arith, laid.slots_length)), laid.slots_length, rows-now, some);
    placed = subst (λ k. HaveSlots k (l.columns - 1) (l.columns - 1 + k) (layout_places (layout_without_column l v))) (sym rows-now)
        (subst (λ a. HaveSlots (rows_of_layout l) (l.columns - 1) a (layout_places (layout_without_column l v)))
        (let q : all l - 1 ≡ l.columns - 1 + rows_of_layout l = omega (arith, some) in q)
        (alike-placed (rows_of_layout l) (l.columns - 1) (all l - 1) _ _ column-gone-alike
        (column-leaves (rows_of_layout l) l.columns (all l) (layout_places l) v laid.placed vl free)));
    narrow = omega (arith, laid.narrow);
    few = subst (λ k. k ≤ column_limit) (sym rows-now) laid.few;
  }
    where
      rows-now : rows_of_layout (layout_without_column l v) ≡ rows_of_layout l
      rows-now = length-map l.basic (unskip v)

      some : 0 < l.columns
      some = omega (arith, laid.placed.slot_below v vl free)

-- ---- a row leaves
module _ (l : Layout) (k : ℕ) (laid : IsLayout l) (kl : k < rows_of_layout l) where
  abbrev v : ℕ
  v = slice_index l.basic k

  abbrev last : ℕ
  last = rows_of_layout l - 1

  v-below : v < all l
  v-below = laid.placed.basic_below k kl

  last-below : slice_index l.basic last < all l
  last-below = laid.placed.basic_below last (omega arith)

  swapped-length : length (swap_remove l.basic k 0) ≡ last
  swapped-length = length-take last (slice_set l.basic k (slice_index l.basic last))
      ∙ omega (arith, length-set l.basic k (slice_index l.basic last))

  swapped-at : (i : ℕ) → i < last → slice_index (swap_remove l.basic k 0) i ≡ slice_index l.basic (last_at k last i)
  swapped-at i il = get_or-take last (slice_set l.basic k (slice_index l.basic last)) i 0 il ∙ elim (nat_cases i k) [
    | inl q ↦ ap (λ x. slice_index (slice_set l.basic k (slice_index l.basic last)) x) q
        ∙ get_or-set_same l.basic k (slice_index l.basic last) 0 kl
        ∙ ap (λ x. slice_index l.basic x) (sym (ap (last_at k last) q ∙ last_at-here k last))
    | inr ne ↦ get_or-set_other l.basic k i (slice_index l.basic last) 0 ne
        ∙ ap (λ x. slice_index l.basic x) (sym (last_at-other k last i ne))
  ]

  pub row-gone-alike : ArePlacedAlike last (places_with_last_at k (rows_of_layout l) v (layout_places l))
      (layout_places (layout_without_row l k))
  row-gone-alike = record {
    basic_is = λ i il. get_or-map (unskip v) (swap_remove l.basic k 0) i 0 0 (omega (arith, swapped-length))
        ∙ ap (unskip v) (swapped-at i il);
    unit_is = removed-list false l.units v (omega (arith, laid.units_length, v-below));
    row_is = removed-list 0 (slice_set l.unit_rows (slice_index l.basic last) k) v
        (omega (arith, laid.rows_length, v-below, length-set l.unit_rows (slice_index l.basic last) k))
        ∙ ap (λ (f : ℕ → ℕ). λ c. f (skip v c))
        (set-at l.unit_rows (slice_index l.basic last) k 0 (omega (arith, laid.rows_length, last-below)));
    slot_is = removed-list 0 l.slots v (omega (arith, laid.slots_length, v-below));
  }

  pub row-gone-laid : IsLayout (layout_without_row l k)
  row-gone-laid = record {
    units_length = omega (arith, length-remove l.units v (omega (arith, laid.units_length, v-below)), laid.units_length, rows-now);
    rows_length = omega (
      arith,
      length-remove (slice_set l.unit_rows (slice_index l.basic last) k) v
          (omega (arith, laid.rows_length, v-below, length-set l.unit_rows (slice_index l.basic last) k)),
      length-set l.unit_rows (slice_index l.basic last) k,
      laid.rows_length,
      rows-now,
    );
    slots_length = omega (arith, length-remove l.slots v (omega (arith, laid.slots_length, v-below)), laid.slots_length, rows-now);
    placed = subst (λ r. HaveSlots r l.columns (l.columns + r) (layout_places (layout_without_row l k))) (sym rows-now)
        (subst (λ a. HaveSlots last l.columns a (layout_places (layout_without_row l k)))
        (let q : all l - 1 ≡ l.columns + last = omega arith in q)
        (alike-placed last l.columns (all l - 1) _ _ row-gone-alike
        (last-takes (rows_of_layout l) l.columns (all l) (layout_places l) k laid.placed kl)));
    narrow = laid.narrow;
    few = subst (λ r. r ≤ column_limit) (sym rows-now) (omega (arith, laid.few));
  }
    where
      rows-now : rows_of_layout (layout_without_row l k) ≡ last
      rows-now = length-map (swap_remove l.basic k 0) (unskip v) ∙ swapped-length

-- as a program makes them, list by list
abbrev pub lists : ℕ → List ℕ → List Bool → List ℕ → List ℕ → ℕ → ℕ → Layout
lists columns basic units unit_rows slots row_room column_room = record {
  columns = columns;
  basic = basic;
  units = units;
  unit_rows = unit_rows;
  slots = slots;
  row_room = row_room;
  column_room = column_room;
}

pub same-lists : (n : ℕ) (basic basic' : List ℕ) (units units' : List Bool) (rows rows' slots slots' : List ℕ) (r c : ℕ) →
    basic ≡ basic' → units ≡ units' → rows ≡ rows' → slots ≡ slots' →
    lists n basic units rows slots r c ≡ lists n basic' units' rows' slots' r c
same-lists n basic basic' units units' rows rows' slots slots' r c b u w s =
    ap (λ x. lists n x units rows slots r c) b ∙ ap (λ x. lists n basic' x rows slots r c) u
    ∙ ap (λ x. lists n basic' units' x slots r c) w ∙ ap (λ x. lists n basic' units' rows' x r c) s

pub has-room : (l n : Layout) (b u w s b' u' w' s' : ℕ) → HasListRoom l b u w s → n.row_room ≡ l.row_room →
    n.column_room ≡ l.column_room → b ≤ b' → u ≤ u' → w ≤ w' → s ≤ s' → HasListRoom n b' u' w' s'
has-room l n b u w s b' u' w' s' room rows columns bl ul wl sl = record {
  basic_room = omega (arith, room.basic_room, rows);
  units_room = omega (arith, room.units_room, rows, columns);
  rows_room = omega (arith, room.rows_room, rows, columns);
  slots_room = omega (arith, room.slots_room, rows, columns);
  row_room_few = omega (arith, room.row_room_few, rows);
  column_room_few = omega (arith, room.column_room_few, columns);
}
