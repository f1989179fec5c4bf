-- Marks of what stands in lists.
use Rattle.std.proofs.Common.{◌≡◌, ℕ, ◌+◌, ◌<◌, Bool, true, false, List, length, map, slice_index, slice_index_or}
use Rattle.std.proofs.Common.{slice_set, [], ap, inl, inr, sym, subst, ◌∙◌, arith}
use Rattle.std.proofs.lemmas.List.{get_or-map, get_or_default, get_or-set_same, get_or-set_other, length-map, length-set}
use Rattle.residue_theory.proofs.SumLaws.{nat_cases}
use Rattle.part_rules.specs.Listed.{marked}
use Rattle.part_arcs.specs.Marking.{IsMarked, columns_of, first_numbers, row_of_lists}

pub column-at : (pairs : List (ℕ × ℕ)) (k : ℕ) (d : ℕ × ℕ) → k < length pairs → slice_index (columns_of pairs) k ≡ (slice_index_or pairs k d).1
column-at pairs k d low = get_or-map (λ (pair : ℕ × ℕ). pair.1) pairs k d 0 low

pub key-at : {T : Type 0} → (items : List (ℕ × T)) (k : ℕ) (d : ℕ × T) → k < length items → slice_index (first_numbers items) k ≡ (slice_index_or items k d).0
key-at items k d low = get_or-map (λ item. item.0) items k d 0 low

-- one number more
pub mark-more : (list : List ℕ) (n x : ℕ) (old now : List Bool) → IsMarked list n old now → slice_index list n ≡ x →
    x < length old → IsMarked list (n + 1) old (slice_set now x true)
mark-more list n x old now before is low = record {
  count = length-set now x true ∙ before.count;
  kept = λ y h. set-kept y (before.kept y h);
  new = λ k kl. elim (nat_cases k n) [
    | inl same ↦ subst (λ v. marked (slice_set now x true) v ≡ true) (sym (subst (λ i. slice_index list i ≡ x) (sym same) is)) here
    | inr less ↦ set-kept (slice_index list k) (before.new k (omega (arith, kl, less)))
  ];
  only = λ y h. elim (nat_cases x y) [
    | inl same ↦ inr (n, omega arith, is ∙ same)
    | inr other ↦ elim (before.only y (subst (λ b. b ≡ true) (get_or-set_other now x y true false (λ e. other (sym e))) h)) [
      | inl first ↦ inl first
      | inr (k, kl, at) ↦ inr (k, omega (arith, kl), at)
    ]
  ];
}
  where
    here : marked (slice_set now x true) x ≡ true
    here = get_or-set_same now x true false (subst (λ m. x < m) (sym before.count) low)

    set-kept : (y : ℕ) → marked now y ≡ true → marked (slice_set now x true) y ≡ true
    set-kept y h = elim (nat_cases x y) [
      | inl same ↦ subst (λ v. marked (slice_set now x true) v ≡ true) same here
      | inr other ↦ get_or-set_other now x y true false (λ e. other (sym e)) ∙ h
    ]

pub key-given : {T : Type 0} → (items : List (ℕ × T)) (k : ℕ) (item : ℕ × T) → k < length items →
    item ≡ slice_index_or items k item → slice_index (first_numbers items) k ≡ item.0
key-given items k item low is = key-at items k item low ∙ ap (λ e. e.0) (sym is)

pub keys-count : {T : Type 0} → (items : List (ℕ × T)) → length (first_numbers items) ≡ length items
keys-count items = length-map items (λ item. item.0)

-- the keys of a row are the row of keys
pub keys-row : {T : Type 0} → (rows : List (List (ℕ × T))) (i : ℕ) (row d : List (ℕ × T)) → i < length rows →
    row ≡ slice_index_or rows i d → first_numbers row ≡ row_of_lists (map first_numbers rows) i
keys-row rows i row d low is = ap first_numbers is ∙ sym (get_or-map first_numbers rows i d [] low)

pub row-given : (rows : List (List ℕ)) (i : ℕ) (row d : List ℕ) → i < length rows → row ≡ slice_index_or rows i d → row ≡ row_of_lists rows i
row-given rows i row d low is = is ∙ get_or_default rows i d [] low
