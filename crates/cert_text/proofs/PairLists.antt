-- Lists of rows and their columns.
use Rattle.std.proofs.Common.{◌≡◌, ℕ, zero, suc, ◌<◌, ◌≤◌, Bool, true, false, cond, eqb, List, [], ◌∷◌, length, map}
use Rattle.std.proofs.Common.{get_or, inl, inr, refl, ap, sym, subst, ◌∙◌, arith}
use Rattle.std.specs.List.Sorted.{IsStrictlyIncreasing}
use Rattle.std.proofs.lemmas.List.{get_or-map, length-map}
use Rattle.std.proofs.lemmas.List.Kept.{AllPairs-from_increasing}
use Rattle.residue_theory.specs.Sets.{everything}
use Rattle.residue_theory.specs.Sums.{size_on}
use Rattle.residue_theory.proofs.SetLaws.{differ, eqb_true, eqb_from, some_below-found, some_below-holds, lt_cases}
use Rattle.residue_theory.proofs.CountLaws.{size-everything, size-injection, size-surjection}
use Rattle.cert_text.specs.Ranges.{ArePairs}
use Rattle.cert_text.specs.Readings.{pair_at, has_column, row_with}

-- an item with column j, and its row
found-later : (pair : ℕ × ℕ) (pairs : List (ℕ × ℕ)) (j k : ℕ) → eqb pair.1 j ≡ false →
    ((i : ℕ) → i < length pairs → (pair_at pairs i).1 ≡ j → (l : ℕ) × (l < length pairs) × ((pair_at pairs l).1 ≡ j)
    × ((pair_at pairs l).0 ≡ row_with pairs j)) →
    k < length (pair ∷ pairs) → (pair_at (pair ∷ pairs) k).1 ≡ j → (l : ℕ) × (l < length (pair ∷ pairs))
    × ((pair_at (pair ∷ pairs) l).1 ≡ j) × ((pair_at (pair ∷ pairs) l).0 ≡ row_with (pair ∷ pairs) j)
found-later pair pairs j zero e rest within same = absurd (differ e (eqb_from pair.1 j same))
found-later pair pairs j (suc k) e rest within same =
    let at = rest k (omega arith) same in
    (suc at.0, omega (arith, at.1), at.2, at.3 ∙ sym (ap (λ b. cond b pair.0 (row_with pairs j)) e))

found-first : (pair : ℕ × ℕ) (pairs : List (ℕ × ℕ)) (j : ℕ) → eqb pair.1 j ≡ true → (l : ℕ)
    × (l < length (pair ∷ pairs)) × ((pair_at (pair ∷ pairs) l).1 ≡ j)
    × ((pair_at (pair ∷ pairs) l).0 ≡ row_with (pair ∷ pairs) j)
found-first pair pairs j e = (0, omega arith, eqb_true pair.1 j e, sym (ap (λ b. cond b pair.0 (row_with pairs j)) e))

found-step : (b : Bool) (pair : ℕ × ℕ) (pairs : List (ℕ × ℕ)) (j k : ℕ) → eqb pair.1 j ≡ b →
    ((i : ℕ) → i < length pairs → (pair_at pairs i).1 ≡ j → (l : ℕ) × (l < length pairs) × ((pair_at pairs l).1 ≡ j)
    × ((pair_at pairs l).0 ≡ row_with pairs j)) →
    k < length (pair ∷ pairs) → (pair_at (pair ∷ pairs) k).1 ≡ j → (l : ℕ) × (l < length (pair ∷ pairs))
    × ((pair_at (pair ∷ pairs) l).1 ≡ j) × ((pair_at (pair ∷ pairs) l).0 ≡ row_with (pair ∷ pairs) j)
found-step true pair pairs j k e rest within same = found-first pair pairs j e
found-step false pair pairs j k e rest within same = found-later pair pairs j k e rest within same

pub found : (pairs : List (ℕ × ℕ)) (j k : ℕ) → k < length pairs → (pair_at pairs k).1 ≡ j → (l : ℕ)
    × (l < length pairs) × ((pair_at pairs l).1 ≡ j) × ((pair_at pairs l).0 ≡ row_with pairs j)
found [] j k within same = absurd (omega arith)
found (pair ∷ pairs) j k within same = found-step (eqb pair.1 j) pair pairs j k refl (found pairs j) within same

-- the column of an item is one of the list
pub has-found : (pairs : List (ℕ × ℕ)) (j : ℕ) → has_column pairs j ≡ true → (l : ℕ) × (l < length pairs)
    × ((pair_at pairs l).1 ≡ j) × ((pair_at pairs l).0 ≡ row_with pairs j)
has-found pairs j h =
    let at = some_below-found (length pairs) (λ k. eqb (pair_at pairs k).1 j) h in
    found pairs j at.0 at.1 (eqb_true (pair_at pairs at.0).1 j at.2)

rising_at : (pairs : List (ℕ × ℕ)) (k l : ℕ) → IsStrictlyIncreasing (map (λ pair. pair.0) pairs) → k < l →
    l < length pairs → (pair_at pairs k).0 < (pair_at pairs l).0
rising_at pairs k l rising less ll =
    let keys : List ℕ = map (λ (pair : ℕ × ℕ). pair.0) pairs in
    let long : length keys ≡ length pairs = length-map pairs (λ (pair : ℕ × ℕ). pair.0) in
    let low : k < length pairs = omega (arith, less, ll) in
    let first : get_or keys k 0 ≡ (get_or pairs k (0, 0)).0 = get_or-map (λ (pair : ℕ × ℕ). pair.0) pairs k (0, 0) 0 low in
    let second : get_or keys l 0 ≡ (get_or pairs l (0, 0)).0 = get_or-map (λ (pair : ℕ × ℕ). pair.0) pairs l (0, 0) 0 ll in
    let apart : get_or keys k 0 < get_or keys l 0 = AllPairs-from_increasing keys rising k l 0 less (subst (λ n. l < n) (sym long) ll) in
    subst (λ a. a < (pair_at pairs l).0) first (subst (λ b. get_or keys k 0 < b) second apart)

-- rows of a rising list differ
pub rows_differ : (m n : ℕ) (pairs : List (ℕ × ℕ)) → ArePairs m n pairs → (k l : ℕ) → k < length pairs →
    l < length pairs → (pair_at pairs k).0 ≡ (pair_at pairs l).0 → k ≡ l
rows_differ m n pairs are k l kl ll same = elim (lt_cases k l) [
  | inl less ↦ absurd (omega (arith, rising_at pairs k l are.rising less ll, same))
  | inr more ↦ elim (lt_cases l k) [
    | inl less ↦ absurd (omega (arith, rising_at pairs l k are.rising less kl, same))
    | inr equal ↦ omega arith
  ]
]

-- the columns of a list are as many as its items, where they differ
pub columns_counted : (n : ℕ) (pairs : List (ℕ × ℕ)) → ((k : ℕ) → k < length pairs → (pair_at pairs k).1 < n) →
    ((k l : ℕ) → k < length pairs → l < length pairs → (pair_at pairs k).1 ≡ (pair_at pairs l).1 → k ≡ l) → size_on (has_column pairs) n ≡ length pairs
columns_counted n pairs below differ = omega (arith, size-everything (length pairs), many, few)
  where
    few : size_on (has_column pairs) n ≤ size_on everything (length pairs)
    few = size-surjection everything (length pairs) (λ k. (pair_at pairs k).1) n (has_column pairs) (λ j jl h.
        let at = some_below-found (length pairs) (λ k. eqb (pair_at pairs k).1 j) h in (at.0, at.1, refl, eqb_true (pair_at pairs at.0).1 j at.2))

    many : size_on everything (length pairs) ≤ size_on (has_column pairs) n
    many = size-injection everything (length pairs) (λ k. (pair_at pairs k).1) n (has_column pairs)
        (λ k kl _. below k kl)
        (λ k kl _. some_below-holds (length pairs) (λ i. eqb (pair_at pairs i).1 (pair_at pairs k).1) k kl
        (eqb_from (pair_at pairs k).1 (pair_at pairs k).1 refl))
        (λ k l kl ll _ _ same. differ k l kl ll same)
