-- Of two different numbers at a place one keeps columns independent, whatever stood there.
use Rattle.std.proofs.Common.{◌≡◌, ℕ, ◌+◌, ◌-◌, ◌*◌, ◌%◌, ◌<◌, ◌≢◌, Bool, true, false, cond, eqb, ◌&&◌, ◌⊎◌, inl, inr}
use Rattle.std.proofs.Common.{refl, ap, sym, subst, ◌∙◌, arith}
use Rattle.std.proofs.lemmas.Bool.Decides.{nat_tests}
use Rattle.std.proofs.Math.Nat.{mod-eq_of_lt, zero-mod}
use Rattle.residue_theory.proofs.ResidueLaws.{agree-add, agree-mul, agree_of, inverse, lacks, vanishes-mul}
use Rattle.residue_theory.proofs.SumLaws.{nat_cases}
use Rattle.residue_theory.specs.Residues.{IsPrime}
use Rattle.linear_algebra.specs.Columns.{IsIndependent}
use Rattle.linear_algebra.specs.Parts.{with_entry}
use Rattle.linear_algebra_laws.proofs.Entries.{with_entry-column, with_entry-row, with_entry-there}
use Rattle.linear_algebra_laws.proofs.Kernels.{independent_of-kernel, row_scaled-kernel}
use Rattle.linear_algebra_laws.proofs.OneOrTwo.{one_of_next}
use Rattle.linear_algebra_laws.proofs.Products.{independent-agree}

-- row r of a, multiplied by h
scaled : (ℕ → ℕ → ℕ) → ℕ → ℕ → ℕ → ℕ → ℕ
scaled a r h i j = cond (eqb i r) (h * a i j) (a i j)

scaled-there : (a : ℕ → ℕ → ℕ) (r h j : ℕ) → scaled a r h r j ≡ h * a r j
unfolding scaled
scaled-there a r h j = grind (arith, nat_tests)

scaled-other : (a : ℕ → ℕ → ℕ) (r h i j : ℕ) → i ≢ r → scaled a r h i j ≡ a i j
unfolding scaled
scaled-other a r h i j ne = grind (arith, nat_tests)

module _ (p : ℕ) (prime : IsPrime p) (m n : ℕ) (a : ℕ → ℕ → ℕ) (r v : ℕ) (Y : ℕ → Bool) (rl : r < m)
    (ind : IsIndependent p a m n Y) where
  -- d is the difference, and h its inverse: with row r multiplied by h the two numbers are neighbours
  module _ (d : ℕ) (ne : d % p ≢ 0) (h : ℕ) (inverted : (d * h) % p ≡ 1) where
    inverse_non_zero : h % p ≢ 0
    inverse_non_zero z = bad ((d * h) % p) (vanishes-mul p d h z) inverted
      where
        bad : (u : ℕ) → u ≡ 0 → u ≡ 1 → ⊥
        bad u e k = omega arith

    restored : (y : ℕ) → (d * (h * y)) % p ≡ y % p
    restored y = ap (λ s. s % p) (let e : d * (h * y) ≡ y * (d * h) = omega arith in e)
        ∙ agree-mul p y (d * h) 1 (inverted ∙ sym (mod-eq_of_lt prime.above_one))
        ∙ ap (λ s. s % p) (let e : y * 1 ≡ y = omega arith in e)

    down : IsIndependent p (scaled a r h) m n Y
    down = independent_of-kernel p m n a (scaled a r h) Y (row_scaled-kernel p m n a (scaled a r h) r h (record {
      changed = λ j _. ap (λ y. y % p) (scaled-there a r h j);
      others = λ i j _ _ ne. ap (λ y. y % p) (scaled-other a r h i j ne);
    }) prime rl inverse_non_zero) ind

    up : (z w : ℕ) → (d * z) % p ≡ w % p → IsIndependent p (with_entry (scaled a r h) r v z) m n Y → IsIndependent p (with_entry a r v w) m n Y
    up z w same = independent_of-kernel p m n (with_entry (scaled a r h) r v z) (with_entry a r v w) Y
        (row_scaled-kernel p m n (with_entry (scaled a r h) r v z) (with_entry a r v w) r d (record {
          changed = λ j _. at_row j;
          others = λ i j _ _ ne. ap (λ y. y % p) (with_entry-row a r v w i j ne ∙ sym (scaled-other a r h i j ne)
              ∙ sym (with_entry-row (scaled a r h) r v z i j ne));
        }) prime rl ne)
      where
        at_row : (j : ℕ) → with_entry a r v w r j % p ≡ (d * with_entry (scaled a r h) r v z r j) % p
        at_row j = elim (nat_cases j v) [
          | inl q ↦ subst (λ k. with_entry a r v w r k % p ≡ (d * with_entry (scaled a r h) r v z r k) % p) (sym q)
              (ap (λ y. y % p) (with_entry-there a r v w) ∙ sym same ∙ ap (λ y. (d * y) % p) (sym (with_entry-there (scaled a r h) r v z)))
          | inr ne ↦ ap (λ y. y % p) (with_entry-column a r v w r j ne) ∙ sym (restored (a r j))
              ∙ ap (λ y. (d * y) % p) (sym (scaled-there a r h j) ∙ sym (with_entry-column (scaled a r h) r v z r j ne))
        ]

    by_inverse : (x : ℕ) → IsIndependent p (with_entry a r v x) m n Y ⊎ IsIndependent p (with_entry a r v (x + d)) m n Y
    by_inverse x = elim (one_of_next p prime m n (scaled a r h) r v Y (h * x) rl down) [
      | inl one ↦ inl (up (h * x) x (restored x) one)
      | inr two ↦ inr (up (h * x + 1) (x + d)
          (ap (λ s. s % p) (let e : d * (h * x + 1) ≡ d * (h * x) + d = omega arith in e)
          ∙ agree-add p (d * (h * x)) x d d (restored x) refl) two)
    ]

  one_of_distant : (x d : ℕ) → d % p ≢ 0 → IsIndependent p (with_entry a r v x) m n Y ⊎ IsIndependent p (with_entry a r v (x + d)) m n Y
  one_of_distant x d ne = go (inverse p prime d ne)
    where
      go : (h : ℕ) × ((d * h) % p ≡ 1) → IsIndependent p (with_entry a r v x) m n Y ⊎ IsIndependent p (with_entry a r v (x + d)) m n Y
      go (h, inverted) = by_inverse d ne h inverted x

  -- the same number at the place, modulo p
  same_number : (x y : ℕ) → x % p ≡ y % p → IsIndependent p (with_entry a r v x) m n Y → IsIndependent p (with_entry a r v y) m n Y
  same_number x y e = independent-agree p m n (with_entry a r v x) (with_entry a r v y) Y (λ i j _ _. chosen (eqb i r && eqb j v) (a i j))
    where
      chosen : (b : Bool) (k : ℕ) → cond b x k % p ≡ cond b y k % p
      chosen true k = e
      chosen false k = refl

  pub one_of_different : (x y : ℕ) → x % p ≢ y % p → IsIndependent p (with_entry a r v x) m n Y ⊎ IsIndependent p (with_entry a r v y) m n Y
  one_of_different x y ne = elim (one_of_distant x (y + (p - 1) * x) apart) [
    | inl one ↦ inl one
    | inr two ↦ inr (same_number (x + (y + (p - 1) * x)) y there two)
  ]
    where
      apart : (y + (p - 1) * x) % p ≢ 0
      apart z = ne (agree_of p x ((p - 1) * x) y (lacks p prime x) z)

      there : (x + (y + (p - 1) * x)) % p ≡ y % p
      there = ap (λ s. s % p) (let e : x + (y + (p - 1) * x) ≡ y + (x + (p - 1) * x) = omega arith in e)
          ∙ agree-add p y y (x + (p - 1) * x) 0 refl (lacks p prime x ∙ sym (zero-mod p))
          ∙ ap (λ s. s % p) (let e : y + 0 ≡ y = omega arith in e)
