-- The entries of a row, and a row that is divided by one of its numbers.
use Rattle.std.proofs.Common.{◌≡◌, ℕ, ◌+◌, ◌*◌, ◌%◌, ◌<◌, ◌≤◌, ◌≢◌, true, cond, eqb, List, [], ◌∷◌, ◌++◌, length, map, slice_index}
use Rattle.std.proofs.Common.{inl, inr, refl, ap, sym, subst, ◌∙◌, arith}
use Rattle.std.proofs.lemmas.List.{get_or_append_left, get_or_at, length-append}
use Rattle.residue_theory.proofs.ResidueLaws.{agree-mul, vanishes-mul}
use Rattle.residue_theory.proofs.SetLaws.{eqb_from}
use Rattle.residue_theory.proofs.SumLaws.{nat_cases}
use Rattle.std.proofs.Math.Nat.{mod-eq_of_lt, zero-mod}
use Rattle.std.proofs.lemmas.Nat.{mul-mod_second}
use Rattle.row_entries.specs.Rows.{EndsBefore, Item, item_or, number_at}
use Rattle.row_entries.proofs.RowLaws.{item, number-before, number-push}
use Rattle.row_echelon.specs.Echelons.{AreEntriesOf, IsDivided}
use Rattle.row_echelon.proofs.EntrySums.{eqb_not}

module _ (p factor : ℕ) (row : List ℕ) where
  pub no-entries : AreEntriesOf p factor 0 row []
  no-entries = record { within = λ i l. absurd (omega (arith, l)); numbers = λ j l. absurd (omega (arith, l)) }

  module _ (n : ℕ) (xs : List Item) (so : AreEntriesOf p factor n row xs) where
    -- a number that is 0 has no entry
    pub entry-left : slice_index row n ≡ 0 → AreEntriesOf p factor (n + 1) row xs
    entry-left z = record {
      within = λ i l. (let h : (item_or 0 xs i).column < n = so.within i l in omega arith);
      numbers = λ j l. elim (nat_cases j n) [
        | inl q ↦ subst (λ k. number_at xs k ≡ (slice_index row k * factor) % p) (sym q)
            (number-before xs n n so.within (omega arith) ∙ sym (ap (λ y. (y * factor) % p) z ∙ ap (λ y. y % p) (none factor) ∙ zero-mod p))
        | inr ne ↦ so.numbers j (omega (arith, l, ne))
      ];
    }
      where
        none : (f : ℕ) → 0 * f ≡ 0
        none f = omega arith

    -- another has one
    pub entry-pushed : (v : ℕ) → v ≡ (slice_index row n * factor) % p → AreEntriesOf p factor (n + 1) row (xs ++ item n v ∷ [])
    entry-pushed v is = record {
      within = within;
      numbers = λ j l. number-push xs n v j ∙ elim (nat_cases j n) [
        | inl q ↦ subst (λ k. number_at xs k + cond (eqb n k) v 0 ≡ (slice_index row k * factor) % p) (sym q)
            (ap (λ y. y + cond (eqb n n) v 0) (number-before xs n n so.within (omega arith))
            ∙ ap (λ b. 0 + cond b v 0) (eqb_from n n refl) ∙ (let o : 0 + v ≡ v = omega arith in o) ∙ is)
        | inr ne ↦ ap (λ b. number_at xs j + cond b v 0) (eqb_not n j (λ q. ne (sym q)))
            ∙ (let o : number_at xs j + 0 ≡ number_at xs j = omega arith in o) ∙ so.numbers j (omega (arith, l, ne))
      ];
    }
      where
        within : EndsBefore (xs ++ item n v ∷ []) (n + 1)
        within i l = elim (nat_cases i (length xs)) [
          | inl q ↦ subst (λ (x : Item). x.column < n + 1) (sym (get_or_at xs (item n v) [] (item 0 0) i (sym q))) (omega arith)
          | inr ne ↦
              let less : i < length xs = omega (arith, l, length-append xs (item n v ∷ []), ne) in
              subst (λ (x : Item). x.column < n + 1) (sym (get_or_append_left xs (item n v ∷ []) (item 0 0) i less))
              (let h : (item_or 0 xs i).column < n = so.within i less in omega arith)
        ]

-- ---- a row divided by its number at the lead
module _ (p n : ℕ) (row : List ℕ) (lead right factor made_right : ℕ) (made : List Item) (so : AreEntriesOf p factor n row made)
    (above : 1 < p) (below : lead < n) (inverse : (slice_index row lead * factor) % p ≡ 1) (side : made_right ≡ (right * factor) % p) where
  -- x is d * (x * factor), where d * factor is 1
  back : (x y : ℕ) → y ≡ (x * factor) % p → x % p ≡ (slice_index row lead * y) % p
  back x y is = sym (ap (λ z. (slice_index row lead * z) % p) is ∙ mul-mod_second (slice_index row lead) (x * factor) p
      ∙ ap (λ z. z % p) (around (slice_index row lead) x factor)
      ∙ agree-mul p x (slice_index row lead * factor) 1 (inverse ∙ sym (mod-eq_of_lt above)) ∙ ap (λ z. z % p) (plain x))
    where
      around : (d z f : ℕ) → d * (z * f) ≡ z * (d * f)
      around d z f = omega arith

      plain : (z : ℕ) → z * 1 ≡ z
      plain z = omega arith

  pub is-divided : IsDivided p n row lead right lead made_right made
  is-divided = record {
    same = refl;
    within = so.within;
    one = so.numbers lead below ∙ inverse;
    some = λ z. absurd (omega (arith, inverse, vanished (slice_index row lead) factor z));
    zero = λ j jl z. so.numbers j jl ∙ vanished (slice_index row j) factor z;
    numbers = λ j jl. back (slice_index row j) (number_at made j) (so.numbers j jl);
    right_side = back right made_right side;
  }
    where
      vanished : (x f : ℕ) → x % p ≡ 0 → (x * f) % p ≡ 0
      vanished x f z = ap (λ y. y % p) (let o : x * f ≡ f * x = omega arith in o) ∙ vanishes-mul p f x z
