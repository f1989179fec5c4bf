-- The items of a row, printed.
use Rattle.std.proofs.Common.{◌≡◌, ℕ, ◌+◌, ◌<◌, ◌≢◌, false, zero, suc, cond, eqb, List, [], ◌∷◌, length, map, get_or, slice_index, inl, inr}
use Rattle.std.proofs.Common.{refl, ap, sym, ◌∙◌, subst, arith}
use Rattle.std.specs.List.Sorted.{IsStrictlyIncreasing}
use Rattle.std.proofs.lemmas.List.{get_or-map, length-map}
use Rattle.residue_theory.proofs.SumLaws.{nat_cases}
use Rattle.residue_theory.proofs.SetLaws.{eqb_from, eqb_true, not_true}
use Rattle.row_entries.specs.Rows.{Item, IsEntryRow, IsRising, item_or, number_at, placed}
use Rattle.row_entries.proofs.RowLaws.{number-absent, rising-rest}
use Rattle.cert_text.specs.Printing.{PrintsRow}
use Rattle.cert_text.specs.Readings.{entry_at}

-- an item as a pair
abbrev pair : Item → ℕ × ℕ
pair x = (x.column, x.number)

-- what stands at a column
entry_at-placed : (xs : List Item) → IsRising xs → (j : ℕ) → entry_at (placed xs) j ≡ number_at xs j
entry_at-placed [] rising j = refl
entry_at-placed (x ∷ xs) rising j = elim (nat_cases x.column j) [
  | inl equal ↦
      let behind : number_at xs j ≡ 0 = number-absent xs j
      (λ i il q. let less : x.column < (item_or 0 xs i).column = rising 0 (suc i) (omega arith) (omega arith) in
      omega (arith, less, q, equal)) in
      ap (λ b. cond b x.number (entry_at (placed xs) j)) (eqb_from x.column j equal)
      ∙ sym (ap (λ b. cond b x.number 0 + number_at xs j) (eqb_from x.column j equal) ∙ ap (λ n. x.number + n) behind ∙ omega arith)
  | inr other ↦
      let apart : eqb x.column j ≡ false = not_true (eqb x.column j) (λ h. other (eqb_true x.column j h)) in
      ap (λ b. cond b x.number (entry_at (placed xs) j)) apart
      ∙ entry_at-placed xs (rising-rest x xs rising) j
      ∙ sym (ap (λ b. cond b x.number 0 + number_at xs j) apart ∙ omega arith)
]

column_at : (xs : List Item) (k : ℕ) → k < length xs → slice_index (map (λ (entry : ℕ × ℕ). entry.0) (placed xs)) k ≡ (item_or 0 xs k).column
column_at xs k low =
    get_or-map (λ (entry : ℕ × ℕ). entry.0) (placed xs) k (0, 0) 0 (omega (arith, low, length-map xs pair))
    ∙ ap (λ (entry : ℕ × ℕ). entry.0) (get_or-map pair xs k (record { column = 0; number = 0 }) (0, 0) low)

columns-rise : (xs : List Item) → IsRising xs → IsStrictlyIncreasing (map (λ (entry : ℕ × ℕ). entry.0) (placed xs))
columns-rise xs rising k kl =
    subst (λ a. a < slice_index (map (λ (entry : ℕ × ℕ). entry.0) (placed xs)) (k + 1)) (sym (column_at xs k (omega (arith, next))))
    (subst (λ b. (item_or 0 xs k).column < b) (sym (column_at xs (k + 1) next)) (rising k (k + 1) (omega arith) next))
  where
    next : k + 1 < length xs
    next = omega (arith, kl, length-map (placed xs) (λ (entry : ℕ × ℕ). entry.0), length-map xs pair)

-- a row of a matrix by its items is printed by them
pub placed-prints : (p n : ℕ) (xs : List Item) (row : ℕ → ℕ) → IsEntryRow p n xs → ((j : ℕ) → number_at xs j ≡ row j) →
    PrintsRow p n row (placed xs)
placed-prints p n xs row is numbers = record {
  are = record {
    rising = columns-rise xs is.rising;
    within = λ k d kl.
        let low : k < length xs = omega (arith, kl, length-map xs pair) in
        subst (λ (entry : ℕ × ℕ). (entry.0 < n) × (0 < entry.1) × (entry.1 < p))
        (sym (get_or-map pair xs k (record { column = 0; number = 0 }) d low))
        (is.narrow k low, omega (arith, is.some k low), is.below k low);
  };
  same = λ j _. entry_at-placed xs is.rising j ∙ numbers j;
}
