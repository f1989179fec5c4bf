-- Of three values at a place, x + 1, x + 2 and x + 3, all but one keep columns independent, whatever stood there.
use Rattle.std.proofs.Common.{◌≡◌, ℕ, ◌+◌, ◌*◌, ◌%◌, ◌<◌, ◌≢◌, Bool, cond, eqb, ◌⊎◌, inl, inr, refl, ap, sym, subst}
use Rattle.std.proofs.Common.{◌∙◌, arith}
use Rattle.std.proofs.lemmas.Bool.Decides.{nat_tests}
use Rattle.std.proofs.Math.Nat.{mod-eq_of_lt}
use Rattle.residue_theory.proofs.ResidueLaws.{agree-add, agree-mul, inverse, vanishes-mul}
use Rattle.residue_theory.proofs.SumLaws.{nat_cases}
use Rattle.residue_theory.specs.Residues.{IsPrime}
use Rattle.linear_algebra.specs.Columns.{IsIndependent}
use Rattle.linear_algebra.specs.Parts.{with_entry}
use Rattle.linear_algebra_laws.proofs.Entries.{with_entry-column, with_entry-row, with_entry-there}
use Rattle.linear_algebra_laws.proofs.Kernels.{independent_of-kernel, row_scaled-kernel}
use Rattle.linear_algebra_laws.proofs.OneOrTwo.{one_of_next}

-- row r of a, multiplied by h
scaled : (ℕ → ℕ → ℕ) → ℕ → ℕ → ℕ → ℕ → ℕ
scaled a r h i j = cond (eqb i r) (h * a i j) (a i j)

scaled-there : (a : ℕ → ℕ → ℕ) (r h j : ℕ) → scaled a r h r j ≡ h * a r j
unfolding scaled
scaled-there a r h j = grind (arith, nat_tests)

scaled-other : (a : ℕ → ℕ → ℕ) (r h i j : ℕ) → i ≢ r → scaled a r h i j ≡ a i j
unfolding scaled
scaled-other a r h i j ne = grind (arith, nat_tests)

module _ (p : ℕ) (prime : IsPrime p) (big : 2 < p) (m n : ℕ) (a : ℕ → ℕ → ℕ) (r v : ℕ) (Y : ℕ → Bool) (rl : r < m)
    (ind : IsIndependent p a m n Y) where
  two_non_zero : 2 % p ≢ 0
  two_non_zero z = bad (2 % p) z (mod-eq_of_lt big)
    where
      bad : (u : ℕ) → u ≡ 0 → u ≡ 2 → ⊥
      bad u e h = omega arith

  module _ (h : ℕ) (half : (2 * h) % p ≡ 1) where
    half_non_zero : h % p ≢ 0
    half_non_zero z = bad ((2 * h) % p) (vanishes-mul p 2 h z) half
      where
        bad : (u : ℕ) → u ≡ 0 → u ≡ 1 → ⊥
        bad u e k = omega arith

    halved : (y : ℕ) → (2 * (h * y)) % p ≡ y % p
    halved y = ap (λ s. s % p) (let e : 2 * (h * y) ≡ y * (2 * h) = omega arith in e)
        ∙ agree-mul p y (2 * h) 1 (half ∙ sym (mod-eq_of_lt prime.above_one))
        ∙ ap (λ s. s % p) (let e : y * 1 ≡ y = omega arith in e)

    down : IsIndependent p (scaled a r h) m n Y
    down = independent_of-kernel p m n a (scaled a r h) Y (row_scaled-kernel p m n a (scaled a r h) r h (record {
      changed = λ j _. ap (λ y. y % p) (scaled-there a r h j);
      others = λ i j _ _ ne. ap (λ y. y % p) (scaled-other a r h i j ne);
    }) prime rl half_non_zero) ind

    up : (z w : ℕ) → (2 * z) % p ≡ w % p → IsIndependent p (with_entry (scaled a r h) r v z) m n Y → IsIndependent p (with_entry a r v w) m n Y
    up z w same = independent_of-kernel p m n (with_entry (scaled a r h) r v z) (with_entry a r v w) Y
        (row_scaled-kernel p m n (with_entry (scaled a r h) r v z) (with_entry a r v w) r 2 (record {
          changed = λ j _. at_row j;
          others = λ i j _ _ ne. ap (λ y. y % p) (with_entry-row a r v w i j ne
              ∙ sym (scaled-other a r h i j ne) ∙ sym (with_entry-row (scaled a r h) r v z i j ne));
        }) prime rl two_non_zero)
      where
        at_row : (j : ℕ) → with_entry a r v w r j % p ≡ (2 * with_entry (scaled a r h) r v z r j) % p
        at_row j = elim (nat_cases j v) [
          | inl q ↦ subst (λ k. with_entry a r v w r k % p ≡ (2 * with_entry (scaled a r h) r v z r k) % p) (sym q)
              (ap (λ y. y % p) (with_entry-there a r v w) ∙ sym same ∙ ap (λ y. (2 * y) % p) (sym (with_entry-there (scaled a r h) r v z)))
          | inr ne ↦ ap (λ y. y % p) (with_entry-column a r v w r j ne) ∙ sym (halved (a r j))
              ∙ ap (λ y. (2 * y) % p) (sym (scaled-there a r h j) ∙ sym (with_entry-column (scaled a r h) r v z r j ne))
        ]

    by_half : (x : ℕ) → IsIndependent p (with_entry a r v x) m n Y ⊎ IsIndependent p (with_entry a r v (x + 2)) m n Y
    by_half x = elim (one_of_next p prime m n (scaled a r h) r v Y (h * x) rl down) [
      | inl one ↦ inl (up (h * x) x (halved x) one)
      | inr two ↦ inr (up (h * x + 1) (x + 2)
          (ap (λ s. s % p) (let e : 2 * (h * x + 1) ≡ 2 * (h * x) + 2 = omega arith in e)
          ∙ agree-add p (2 * (h * x)) x 2 2 (halved x) refl) two)
    ]

  one_of_second : (x : ℕ) → IsIndependent p (with_entry a r v x) m n Y ⊎ IsIndependent p (with_entry a r v (x + 2)) m n Y
  one_of_second x = go (inverse p prime 2 two_non_zero)
    where
      go : (h : ℕ) × ((2 * h) % p ≡ 1) → IsIndependent p (with_entry a r v x) m n Y ⊎ IsIndependent p (with_entry a r v (x + 2)) m n Y
      go (h, half) = by_half h half x

  -- of any two of the three values one keeps the columns independent
  abbrev At : ℕ → ℕ → Type 0
  At k x = IsIndependent p (with_entry a r v (k + x)) m n Y

  moved : (k x y : ℕ) → x ≡ k + y → IsIndependent p (with_entry a r v x) m n Y → At k y
  moved k x y q = subst (λ z. IsIndependent p (with_entry a r v z) m n Y) q

  pub first_or_second : (k : ℕ) → At k 1 ⊎ At k 2
  first_or_second k = elim (one_of_next p prime m n a r v Y (k + 1) rl ind) [
    | inl one ↦ inl one
    | inr two ↦ inr (moved k (k + 1 + 1) 2 (omega arith) two)
  ]

  pub second_or_third : (k : ℕ) → At k 2 ⊎ At k 3
  second_or_third k = elim (one_of_next p prime m n a r v Y (k + 2) rl ind) [
    | inl one ↦ inl one
    | inr two ↦ inr (moved k (k + 2 + 1) 3 (omega arith) two)
  ]

  pub first_or_third : (k : ℕ) → At k 1 ⊎ At k 3
  first_or_third k = elim (one_of_second (k + 1)) [
    | inl one ↦ inl one
    | inr two ↦ inr (moved k (k + 1 + 2) 3 (omega arith) two)
  ]
