-- The places of the columns as lists.
use Rattle.std.proofs.Common.{◌≡◌, ℕ, ◌+◌, ◌-◌, ◌<◌, ◌≤◌, Bool, true, false, not, ltb, eqb, cond, List, length, slice_index, slice_index_or, slice_set, inl}
use Rattle.std.proofs.Common.{inr, ap, sym, subst, ◌∙◌, arith}
use Rattle.std.proofs.Math.Path.{fun_ext}
use Rattle.std.proofs.lemmas.List.{get_or-set_same, get_or-set_other, length-set, get_or_read}
use Rattle.std.proofs.lemmas.Bool.Decides.{nat_tests}
use Rattle.residue_theory.proofs.SumLaws.{nat_cases}
use Rattle.limits.specs.Limits.{column_limit}
use Rattle.row_table.specs.Places.{Places, HaveSlots, exchanged}
use Rattle.row_table.specs.Layouts.{Layout, IsLayout, IsFirst, layout_places, moved, all, rows_of_layout}
use Rattle.row_table.proofs.PlaceLaws.{if_same, if_other, exchanged-placed}

pub set-at : {A : Type 0} (xs : List A) (r : ℕ) (v d : A) → r < length xs →
    ◌≡◌ {A = ℕ → A} (λ i. slice_index_or (slice_set xs r v) i d) (λ i. cond (eqb i r) v (slice_index_or xs i d))
set-at xs r v d rl = fun_ext (λ i. elim (nat_cases i r) [
  | inl q ↦ subst (λ k. slice_index_or (slice_set xs r v) k d ≡ v) (sym q) (get_or-set_same xs r v d rl)
      ∙ sym (if_same i r v (slice_index_or xs i d) q)
  | inr ne ↦ get_or-set_other xs r i v d ne ∙ sym (if_other i r v (slice_index_or xs i d) ne)
])

module _ (l : Layout) (r v : ℕ) (laid : IsLayout l) (rl : r < rows_of_layout l) (vl : v < all l) where
  abbrev gone : ℕ
  gone = slice_index l.basic r

  gone-below : gone < all l
  gone-below = laid.placed.basic_below r rl

  basic-is : ◌≡◌ {A = ℕ → ℕ} (λ i. slice_index (slice_set l.basic r v) i)
      (λ i. cond (eqb i r) v (slice_index l.basic i))
  basic-is = set-at l.basic r v 0 rl

  rows-is : ◌≡◌ {A = ℕ → ℕ} (λ c. slice_index (slice_set l.unit_rows v r) c)
      (λ c. cond (eqb c v) r (slice_index l.unit_rows c))
  rows-is = set-at l.unit_rows v r 0 (omega (arith, laid.rows_length, vl))

  slots-is : ◌≡◌ {A = ℕ → ℕ} (λ c. slice_index (slice_set l.slots gone (slice_index l.slots v)) c)
      (λ c. cond (eqb c gone) (slice_index l.slots v) (slice_index l.slots c))
  slots-is = set-at l.slots gone (slice_index l.slots v) 0 (omega (arith, laid.slots_length, gone-below))

  units-is : ◌≡◌ {A = ℕ → Bool} (λ c. slice_index_or (slice_set (slice_set l.units gone false) v true) c false)
      (λ c. cond (eqb c v) true (cond (eqb c gone) false (slice_index_or l.units c false)))
  units-is = set-at (slice_set l.units gone false) v true false (omega (
    arith,
    laid.units_length,
    vl,
    length-set l.units gone false,
  ))
      ∙ ap (λ (f : ℕ → Bool). λ c. cond (eqb c v) true (f c))
      (set-at l.units gone false false (omega (arith, laid.units_length, gone-below)))

  abbrev made : (ℕ → ℕ) → (ℕ → Bool) → (ℕ → ℕ) → (ℕ → ℕ) → Places
  made basic is_unit row slot = record { basic = basic; is_unit = is_unit; row = row; slot = slot }

  pub moved-places : layout_places (moved l r v) ≡ exchanged (layout_places l) r v
  moved-places =
      let now : Places = layout_places (moved l r v) in
      let new : Places = exchanged (layout_places l) r v in
      ap (λ (f : ℕ → ℕ). made f now.is_unit now.row now.slot) basic-is
      ∙ ap (λ (f : ℕ → Bool). made new.basic f now.row now.slot) units-is
      ∙ ap (λ (f : ℕ → ℕ). made new.basic new.is_unit f now.slot) rows-is
      ∙ ap (λ (f : ℕ → ℕ). made new.basic new.is_unit new.row f) slots-is

  pub moved-laid : (layout_places l).is_unit v ≡ false → IsLayout (moved l r v)
  moved-laid free = record {
    units_length = length-set (slice_set l.units gone false) v true ∙ length-set l.units gone false
        ∙ laid.units_length ∙ sym all-same;
    rows_length = length-set l.unit_rows v r ∙ laid.rows_length ∙ sym all-same;
    slots_length = length-set l.slots gone (slice_index l.slots v) ∙ laid.slots_length ∙ sym all-same;
    placed = subst (λ m. HaveSlots m l.columns (l.columns + m) (layout_places (moved l r v))) (sym rows-same)
        (subst (λ s. HaveSlots (rows_of_layout l) l.columns (all l) s) (sym moved-places)
        (exchanged-placed (rows_of_layout l) l.columns (all l) (layout_places l) r v laid.placed rl vl free));
    narrow = laid.narrow;
    few = subst (λ m. m ≤ column_limit) (sym rows-same) laid.few;
  }
    where
      rows-same : rows_of_layout (moved l r v) ≡ rows_of_layout l
      rows-same = length-set l.basic r v

      all-same : all (moved l r v) ≡ all l
      all-same = ap (λ m. l.columns + m) rows-same

-- as a program reads and writes them
abbrev moved_to : Layout → ℕ → ℕ → ℕ → ℕ → Layout
moved_to l r v g w = record {
  columns = l.columns;
  basic = slice_set l.basic r v;
  units = slice_set (slice_set l.units g false) v true;
  unit_rows = slice_set l.unit_rows v r;
  slots = slice_set l.slots g w;
  row_room = l.row_room;
  column_room = l.column_room;
}

pub read-laid : (l : Layout) (r v g w : ℕ) → IsLayout l → r < rows_of_layout l → v < all l → (layout_places l).is_unit v ≡ false →
    g ≡ slice_index_or l.basic r g → w ≡ slice_index_or l.slots v w → IsLayout (moved_to l r v g w)
read-laid l r v g w laid rl vl free ge we =
    subst (λ x. IsLayout (moved_to l r v x w)) (sym (get_or_read l.basic r g rl ge 0))
    (subst (λ y. IsLayout (moved_to l r v (slice_index l.basic r) y))
    (sym (get_or_read l.slots v w (omega (arith, laid.slots_length, vl)) we 0))
    (moved-laid l r v laid rl vl free))

pub read-moved : (l : Layout) (r v g w : ℕ) → IsLayout l → r < rows_of_layout l → v < all l →
    g ≡ slice_index_or l.basic r g → w ≡ slice_index_or l.slots v w → moved_to l r v g w ≡ moved l r v
read-moved l r v g w laid rl vl ge we =
    ap (λ x. moved_to l r v x w) (get_or_read l.basic r g rl ge 0)
    ∙ ap (λ y. moved_to l r v (slice_index l.basic r) y)
    (get_or_read l.slots v w (omega (arith, laid.slots_length, vl)) we 0)

-- ---- before any exchange
module _ (m n : ℕ) (s : Places) (first : IsFirst m n s) where
  not_less : (c : ℕ) → not (ltb c n) ≡ true → n ≤ c
  not_less c h = grind (arith, nat_tests)

  less : (c : ℕ) → not (ltb c n) ≡ false → c < n
  less c h = grind (arith, nat_tests)

  beyond : (c : ℕ) → n ≤ c → not (ltb c n) ≡ true
  beyond c h = grind (arith, nat_tests)

  unit-beyond : (c : ℕ) → c < n + m → s.is_unit c ≡ true → n ≤ c
  unit-beyond c cl h = not_less c (sym (first.unit_is c cl) ∙ h)

  other-before : (c : ℕ) → c < n + m → s.is_unit c ≡ false → c < n
  other-before c cl h = less c (sym (first.unit_is c cl) ∙ h)

  pub first-placed : HaveSlots m n (n + m) s
  first-placed = record {
    basic_below = λ i il. subst (λ c. c < n + m) (sym (first.basic_is i il)) (omega arith);
    basic_unit = λ i il. ap s.is_unit (first.basic_is i il) ∙ first.unit_is (n + i) (omega arith)
        ∙ beyond (n + i) (omega arith);
    basic_row = λ i il. ap s.row (first.basic_is i il) ∙ first.row_is (n + i) (omega arith) ∙ omega arith;
    row_below = λ c cl h. subst (λ i. i < m) (sym (first.row_is c cl)) (omega (arith, unit-beyond c cl h));
    row_basic = λ c cl h. ap s.basic (first.row_is c cl) ∙ first.basic_is (c - n) (omega (arith, unit-beyond c cl h))
        ∙ omega (arith, unit-beyond c cl h);
    slot_below = λ c cl h. subst (λ i. i < n) (sym (first.slot_is c cl)) (other-before c cl h);
    apart = λ c d cl dl ch dh e. sym (first.slot_is c cl) ∙ e ∙ first.slot_is d dl;
  }

pub first-laid : (m : ℕ) (l : Layout) → l.columns ≤ column_limit → m ≤ column_limit → rows_of_layout l ≡ m →
    length l.units ≡ l.columns + m → length l.unit_rows ≡ l.columns + m → length l.slots ≡ l.columns + m →
    IsFirst m l.columns (layout_places l) → IsLayout l
first-laid m l narrow few rows units unit_rows slots first = record {
  units_length = units ∙ ap (λ k. l.columns + k) (sym rows);
  rows_length = unit_rows ∙ ap (λ k. l.columns + k) (sym rows);
  slots_length = slots ∙ ap (λ k. l.columns + k) (sym rows);
  placed = subst (λ k. HaveSlots k l.columns (l.columns + k) (layout_places l)) (sym rows)
      (first-placed m l.columns (layout_places l) first);
  narrow = narrow;
  few = subst (λ k. k ≤ column_limit) (sym rows) few;
}
