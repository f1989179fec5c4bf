-- Unit columns are told by marks.
use Rattle.std.proofs.Common.{◌≡◌, ℕ, zero, suc, ◌%◌, ◌<◌, ◌≢◌, ◌⊎◌, Bool, true, false, cond, eqb, List, [], ◌∷◌}
use Rattle.std.proofs.Common.{length, slice_index, slice_index_or, inl, inr, refl, ap, sym, subst, ◌∙◌, arith}
use Rattle.std.proofs.Math.Nat.{mod-eq_of_lt, zero-mod}
use Rattle.residue_theory.proofs.SetLaws.{differ, eqb_true, eqb_from, zero_cases}
use Rattle.residue_theory.proofs.SumLaws.{nat_cases}
use Rattle.cert_text.specs.Ranges.{AreEntries, ArePairs, IsPrintedMatrix}
use Rattle.cert_text.specs.Readings.{entry_at, matrix_of, pair_at}
use Rattle.cert_checker.specs.Units.{AreUnits, AreBaseMarks, AreOnes, AreClear}

found-step : (b : Bool) (entry : ℕ × ℕ) (entries : List (ℕ × ℕ)) (j : ℕ) → eqb entry.0 j ≡ b → cond b entry.1 (entry_at entries j) ≢ 0 →
    (entry_at entries j ≢ 0 → (k : ℕ) × (k < length entries) × ((pair_at entries k).0 ≡ j)) → (k : ℕ)
    × (k < length (entry ∷ entries)) × ((pair_at (entry ∷ entries) k).0 ≡ j)
found-step true entry entries j e some rest = (0, omega arith, eqb_true entry.0 j e)
found-step false entry entries j e some rest = let at = rest some in (suc at.0, omega (arith, at.1), at.2)

-- a number that is not 0 is that of an entry
entry-found : (entries : List (ℕ × ℕ)) (j : ℕ) → entry_at entries j ≢ 0 → (k : ℕ) × (k < length entries) × ((pair_at entries k).0 ≡ j)
entry-found [] j some = absurd (some refl)
entry-found (entry ∷ entries) j some = found-step (eqb entry.0 j) entry entries j refl some (entry-found entries j)

some-step : (b : Bool) (p : ℕ) (entry : ℕ × ℕ) (rest : ℕ) → (0 < entry.1) × (entry.1 < p) →
    (b ≡ false → (0 < rest) × (rest < p)) → (0 < cond b entry.1 rest) × (cond b entry.1 rest < p)
some-step true p entry rest here later = here
some-step false p entry rest here later = later refl

-- and the number at the column of an entry is not 0
entry-some : (p : ℕ) (entries : List (ℕ × ℕ)) (k : ℕ) → ((i : ℕ) → i < length entries → (0 < (pair_at entries i).1)
    × ((pair_at entries i).1 < p)) → k < length entries →
    (0 < entry_at entries (pair_at entries k).0) × (entry_at entries (pair_at entries k).0 < p)
entry-some p [] k each low = absurd (omega arith)
entry-some p (entry ∷ entries) zero each low = some-step (eqb entry.0 entry.0) p entry (entry_at entries entry.0)
    (each 0 (omega arith)) (λ no. absurd (differ no (eqb_from entry.0 entry.0 refl)))
entry-some p (entry ∷ entries) (suc k) each low =
    some-step (eqb entry.0 (pair_at entries k).0) p entry (entry_at entries (pair_at entries k).0)
    (each 0 (omega arith)) (λ no. entry-some p entries k (λ i il. each (suc i) (omega (arith, il)))
    (omega (arith, low)))

small-step : (b : Bool) (p x rest : ℕ) → x < p → rest < p → cond b x rest < p
small-step true p x rest here later = here
small-step false p x rest here later = later

-- each number of a row is below p
entry-small : (p : ℕ) (entries : List (ℕ × ℕ)) (j : ℕ) → 0 < p → ((i : ℕ) → i < length entries → (pair_at entries i).1 < p) → entry_at entries j < p
entry-small p [] j big each = big
entry-small p (entry ∷ entries) j big each = small-step (eqb entry.0 j) p entry.1 (entry_at entries j)
    (each 0 (omega arith)) (entry-small p entries j big (λ i il. each (suc i) (omega (arith, il))))

not-zero : (p x : ℕ) → 0 < x → x < p → x % p ≡ 0 → ⊥
not-zero p x some small zero_is = let same : x % p ≡ x = mod-eq_of_lt small in absurd (omega (arith, some, same, zero_is))

module _ (p m n : ℕ) (big : 1 < p) (P : List (List (ℕ × ℕ))) (base : List (ℕ × ℕ)) (marks : List ℕ)
    (matrix : IsPrintedMatrix p m n P) (pairs : ArePairs m n base) (are : AreBaseMarks m n base (length base) marks) where
  row-at : (i : ℕ) → i < m → AreEntries p n (slice_index_or P i [])
  row-at i il = matrix.entries i [] (omega (arith, il, matrix.count))

  small-at : (i j : ℕ) → i < m → matrix_of P i j < p
  small-at i j il = entry-small p (slice_index_or P i []) j (omega (arith, big)) (λ k kl. ((row-at i il).within k (0, 0) kl).2)

  clear-at : AreClear m marks P m → (i j : ℕ) → i < m → matrix_of P i j ≢ 0 → (slice_index marks j ≡ m) ⊎ (slice_index marks j ≡ i)
  clear-at clear i j il some =
      let at = entry-found (slice_index_or P i []) j some in
      subst (λ c. (slice_index marks c ≡ m) ⊎ (slice_index marks c ≡ i)) at.2 (clear i il at.0 at.1)

  mark-is : AreClear m marks P m → (k i : ℕ) → k < length base → i < m → matrix_of P i (pair_at base k).1 ≢ 0 → slice_index marks (pair_at base k).1 ≡ i
  mark-is clear k i kl il some = elim (clear-at clear i (pair_at base k).1 il some) [
    | inl none ↦ absurd (are.set k kl none)
    | inr here ↦ here
  ]

  one-some : (x : ℕ) → x ≡ 1 → x ≢ 0
  one-some x one zero_is = absurd (omega (arith, one, zero_is))

  pub units-to : AreOnes P base (length base) → AreClear m marks P m → AreUnits p m P base
  units-to ones clear k kl = record {
    one = ap (λ x. x % p) (ones k kl) ∙ mod-eq_of_lt big;
    zero = λ i il other. elim (zero_cases (matrix_of P i (pair_at base k).1)) [
      | inl none ↦ ap (λ x. x % p) none ∙ zero-mod p
      | inr some ↦ absurd (other (sym (mark-is clear k i kl il some)
          ∙ mark-is clear k (pair_at base k).0 kl (pairs.within k (0, 0) kl).0 (one-some (matrix_of P (pair_at base k).0 (pair_at base k).1) (ones k kl))))
    ];
  }

  pub units-ones : AreUnits p m P base → AreOnes P base (length base)
  units-ones units k kl =
      let small : matrix_of P (pair_at base k).0 (pair_at base k).1 < p = small-at (pair_at base k).0 (pair_at base k).1 (pairs.within k (0, 0) kl).0 in
      sym (mod-eq_of_lt small) ∙ (units k kl).one

  pub units-clear : AreUnits p m P base → AreClear m marks P m
  units-clear units i il k kl = go (are.item j (row.within k (0, 0) kl).0)
    where
      entries : List (ℕ × ℕ)
      entries = slice_index_or P i []

      j : ℕ
      j = (pair_at entries k).0

      row : AreEntries p n entries
      row = row-at i il

      some : (0 < matrix_of P i j) × (matrix_of P i j < p)
      some = entry-some p entries k (λ l ll. ((row.within l (0, 0) ll).1, (row.within l (0, 0) ll).2)) kl

      go : (slice_index marks j ≡ m) ⊎ ((l : ℕ) × (l < length base) × ((pair_at base l).0 ≡ slice_index marks j)
          × ((pair_at base l).1 ≡ j)) → (slice_index marks j ≡ m) ⊎ (slice_index marks j ≡ i)
      go (inl none) = inl none
      go (inr (l, ll, r, c)) = elim (nat_cases i (pair_at base l).0) [
        | inl same ↦ inr (sym r ∙ sym same)
        | inr other ↦ absurd (not-zero p (matrix_of P i j) some.0 some.1 (subst (λ x. matrix_of P i x % p ≡ 0) c ((units l ll).zero i il other)))
      ]
