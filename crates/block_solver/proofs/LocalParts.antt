-- A diagonal part of a matrix by its own rows and columns, and the sum of a row over all columns.
use Rattle.std.proofs.Common.{◌≡◌, ℕ, ◌+◌, ◌*◌, ◌%◌, ◌<◌, Bool, true, false, eqb, List, [], ◌∷◌, length}
use Rattle.std.proofs.Common.{slice_index, inl, inr, refl, ap, sym, subst, ◌∙◌, arith}
use Rattle.std.specs.List.{All}
use Rattle.std.proofs.Math.Nat.{zero-mod}
use Rattle.std.proofs.lemmas.List.Elements.{All-head, All-tail}
use Rattle.residue_theory.specs.Sets.{everything, has, without}
use Rattle.residue_theory.specs.Sums.{sum_below, sum_on}
use Rattle.residue_theory.proofs.ResidueLaws.{agree-mul, agree-sum, vanishes-mul, vanishes-sum}
use Rattle.residue_theory.proofs.SetLaws.{choose, differ, eqb_from, eqb_true, not_true}
use Rattle.residue_theory.proofs.SumLaws.{nat_cases, sum_on-ext, sum_on-none, sum_on-same, sum_on-without, without-member}
use Rattle.linear_algebra.specs.Columns.{CombinesToZero, IsIndependent}
use Rattle.linear_algebra.specs.Parts.{diagonal, in_part}
use Rattle.linear_algebra_laws.proofs.Entries.{part-other_row, part-shown}
use Rattle.cert_text.specs.Ranges.{AreRising}
use Rattle.cert_text.specs.Readings.{entry_at}
use Rattle.certificate_laws.proofs.RisingLists.{same-tests}
use Rattle.part_arcs.proofs.FormLaws.{has-some, some-has}
use Rattle.block_solver.specs.Rows.{AreKeysRising, row_sum}
use Rattle.block_solver.proofs.Entries.{entry-here, entry-other}
use Rattle.block_solver.proofs.RisingLists.{rising-distinct, sum-members}
use Rattle.block_solver.proofs.Splits.{entry-once, rising-tail}

-- b has the rows and columns of part h of a: row r of b is row `big r` of a, and column c of b is the c-th column of the list
module _ (p m n : ℕ) (a : ℕ → ℕ → ℕ) (row_of column_of : ℕ → ℕ) (h : ℕ) (columns : List ℕ) (rising : AreRising n columns)
    (listed : (j : ℕ) → j < n → has columns j ≡ true → column_of j ≡ h) (held : (j : ℕ) → j < n → column_of j ≡ h → has columns j ≡ true)
    (big : ℕ → ℕ) (big_below : (r : ℕ) → r < length columns → big r < m) (big_part : (r : ℕ) → r < length columns → row_of (big r) ≡ h)
    (big_all : (i : ℕ) → i < m → row_of i ≡ h → (r : ℕ) × (r < length columns) × (big r ≡ i))
    (b : ℕ → ℕ → ℕ) (same : (r c : ℕ) → r < length columns → c < length columns → b r c % p ≡ a (big r) (slice_index columns c) % p) where
  below : (c : ℕ) → c < length columns → slice_index columns c < n
  below c cl = rising.below c 0 cl

  in-list : (j : ℕ) → j < n → in_part column_of h j ≡ has columns j
  in-list j jl = same-tests (in_part column_of h j) (has columns j) (λ e. held j jl (eqb_true (column_of j) h e))
      (λ e. eqb_from (column_of j) h (listed j jl e))

  -- the sum over the part at a row of it, by places
  local-sum : (c : ℕ → ℕ) (r : ℕ) → r < length columns →
      sum_on (in_part column_of h) n (λ j. c j * diagonal row_of column_of a h (big r) j) % p
      ≡ sum_below (length columns) (λ q. c (slice_index columns q) * b r q) % p
  local-sum c r rl =
      ap (λ s. s % p) (sum_on-ext (in_part column_of h) n (λ j. c j * diagonal row_of column_of a h (big r) j) (λ j. c j * a (big r) j)
      (λ j jl jh. ap (λ x. c j * x) (part-shown (in_part row_of h) (in_part column_of h) a (big r) j (eqb_from (row_of (big r)) h (big_part r rl)) jh))
      ∙ sum_on-same (in_part column_of h) (has columns) n (λ j. c j * a (big r) j) in-list
      ∙ sum-members columns n (λ j. c j * a (big r) j) rising.rising below)
      ∙ agree-sum p everything (length columns) (λ q. c (slice_index columns q) * a (big r) (slice_index columns q))
      (λ q. c (slice_index columns q) * b r q)
      (λ q ql _. agree-mul p (c (slice_index columns q)) (a (big r) (slice_index columns q)) (b r q) (sym (same r q rl ql)))

  pub part-independent : IsIndependent p b (length columns) (length columns) everything →
      IsIndependent p (diagonal row_of column_of a h) m n (in_part column_of h)
  part-independent ind c zeros j jl jh =
      let at = has-some columns j (sym (in-list j jl) ∙ jh) in
      subst (λ k. c k % p ≡ 0) at.2
      (ind (λ q. c (slice_index columns q)) (λ r rl. sym (local-sum c r rl) ∙ zeros (big r) (big_below r rl)) at.0 at.1 refl)

  pub local-independent : IsIndependent p (diagonal row_of column_of a h) m n (in_part column_of h) →
      IsIndependent p b (length columns) (length columns) everything
  local-independent ind d zeros q ql _ =
      ap (λ k. d k % p) (sym (back q ql))
      ∙ ind (λ j. d (place.0 j)) each (slice_index columns q) (below q ql)
      (in-list (slice_index columns q) (below q ql) ∙ some-has columns q (slice_index columns q) ql refl)
    where
      place : (f : ℕ → ℕ) × ((j : ℕ) → j < n → has columns j ≡ true → (f j < length columns) × (slice_index columns (f j) ≡ j))
      place = choose n ℕ 0 (λ j k. has columns j ≡ true → (k < length columns) × (slice_index columns k ≡ j)) (λ j jl. go j (has columns j) refl)
        where
          go : (j : ℕ) (t : Bool) → has columns j ≡ t → (k : ℕ) × (has columns j ≡ true → (k < length columns) × (slice_index columns k ≡ j))
          go j true e = let at = has-some columns j e in (at.0, λ _. (at.1, at.2))
          go j false e = (0, λ e'. absurd (differ e e'))

      back : (q : ℕ) → q < length columns → place.0 (slice_index columns q) ≡ q
      back q ql =
          let at = place.1 (slice_index columns q) (below q ql) (some-has columns q (slice_index columns q) ql refl) in
          rising-distinct columns rising.rising (place.0 (slice_index columns q)) q at.0 ql at.1

      each : CombinesToZero p (diagonal row_of column_of a h) m n (in_part column_of h) (λ j. d (place.0 j))
      each i il = elim (nat_cases (row_of i) h) [
        | inl e ↦
            let at = big_all i il e in
            subst (λ k. sum_on (in_part column_of h) n (λ j. d (place.0 j) * diagonal row_of column_of a h k j) % p ≡ 0) at.2
            (local-sum (λ j. d (place.0 j)) at.0 at.1
            ∙ ap (λ s. s % p) (sum_on-ext everything (length columns) (λ t. d (place.0 (slice_index columns t)) * b at.0 t) (λ t. d t * b at.0 t)
            (λ t tl _. ap (λ k. d k * b at.0 t) (back t tl)))
            ∙ zeros at.0 at.1)
        | inr ne ↦ vanishes-sum p (in_part column_of h) n (λ j. d (place.0 j) * diagonal row_of column_of a h i j)
            (λ j _ _. vanishes-mul p (d (place.0 j)) (diagonal row_of column_of a h i j)
            (ap (λ x. x % p) (part-other_row (in_part row_of h) (in_part column_of h) a i j
            (not_true (eqb (row_of i) h) (λ e. ne (eqb_true (row_of i) h e)))) ∙ zero-mod p))
      ]

-- ---- the sum of a row over all columns
pub row_sum-all : (n : ℕ) (row : List (ℕ × ℕ)) (x : List ℕ) → AreKeysRising row → All (λ (e : ℕ × ℕ). e.0 < n) row →
    row_sum row x ≡ sum_below n (λ j. slice_index x j * entry_at row j)
row_sum-all n [] x rising within = sym (sum_on-ext everything n (λ j. slice_index x j * 0) (λ _. 0) (λ j _ _. omega arith) ∙ sum_on-none everything n)
row_sum-all n (e ∷ es) x rising within =
    ap (λ s. slice_index x e.0 * e.1 + s) (row_sum-all n es x (rising-tail e es rising) (All-tail (λ (y : ℕ × ℕ). y.0 < n) e es within)
    ∙ sum_on-without everything n e.0 (λ j. slice_index x j * entry_at es j) low refl
    ∙ ap (λ z. others es + slice_index x e.0 * z) (entry-once e es rising))
    ∙ gathered (slice_index x e.0 * e.1) (others es) (slice_index x e.0)
    ∙ sym (sum_on-without everything n e.0 (λ j. slice_index x j * entry_at (e ∷ es) j) low refl
    ∙ ap (λ s. s + slice_index x e.0 * entry_at (e ∷ es) e.0)
    (sum_on-ext (without everything e.0) n (λ j. slice_index x j * entry_at (e ∷ es) j) (λ j. slice_index x j * entry_at es j)
    (λ j jl jh. ap (λ z. slice_index x j * z) (entry-other e es j (λ q. (without-member everything e.0 j jh).1 (sym q)))))
    ∙ ap (λ z. others es + slice_index x e.0 * z) (entry-here e es e.0 refl))
  where
    low : e.0 < n
    low = All-head (λ (y : ℕ × ℕ). y.0 < n) e es within

    others : List (ℕ × ℕ) → ℕ
    others row = sum_on (without everything e.0) n (λ j. slice_index x j * entry_at row j)

    gathered : (a s y : ℕ) → a + (s + y * 0) ≡ s + a
    gathered a s y = omega arith
