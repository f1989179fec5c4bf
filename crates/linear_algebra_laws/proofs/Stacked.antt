-- One matrix above another: the equations are those of both.
use Rattle.std.proofs.Common.{◌≡◌, ℕ, ◌+◌, ◌-◌, ◌*◌, ◌%◌, ◌<◌, ◌≤◌, Bool, true, false, cond, ltb, inl, inr, refl, ap, sym, subst, ◌∙◌, arith}
use Rattle.std.proofs.lemmas.Bool.Decides.{nat_tests}
use Rattle.residue_theory.specs.Sums.{sum_on, size_on}
use Rattle.residue_theory.specs.Sets.{nothing, IsWithin}
use Rattle.residue_theory.specs.Residues.{IsPrime}
use Rattle.linear_algebra.specs.Columns.{CombinesToZero, IsIndependent, IsRank}
use Rattle.linear_algebra.specs.Kernels.{SameKernel}
use Rattle.residue_theory.proofs.SumLaws.{sum_on-ext, sum_on-same}
use Rattle.residue_theory.proofs.SetLaws.{lt_cases, differ, choice}
use Rattle.residue_theory.proofs.CountLaws.{sum_on-join}
use Rattle.linear_algebra_laws.proofs.Elimination.{dichotomy}
use Rattle.linear_algebra_laws.proofs.Ranks.{Basis, basis, combined, none_independent, rank_exists}
use Rattle.linear_algebra_laws.proofs.RankLaws.{rank-rows}
use Rattle.linear_algebra.specs.Parts.{above}
use Rattle.linear_algebra_laws.proofs.Entries.{above-top, above-low}

module _ (p m t n : ℕ) (a b : ℕ → ℕ → ℕ) (X : ℕ → Bool) (c : ℕ → ℕ) where
  sum-top : (i : ℕ) → i < m → sum_on X n (λ j. c j * above m a b i j) ≡ sum_on X n (λ j. c j * a i j)
  sum-top i l = sum_on-ext X n (λ j. c j * above m a b i j) (λ j. c j * a i j) (λ j _ _. ap (λ s. c j * s) (above-top m a b i j l))

  sum-low : (i : ℕ) → sum_on X n (λ j. c j * above m a b (m + i) j) ≡ sum_on X n (λ j. c j * b i j)
  sum-low i = sum_on-ext X n (λ j. c j * above m a b (m + i) j) (λ j. c j * b i j) (λ j _ _. ap (λ s. c j * s) (above-low m a b i j))

  pub above-zero : CombinesToZero p a m n X c → CombinesToZero p b t n X c → CombinesToZero p (above m a b) (m + t) n X c
  above-zero x y i l = elim (lt_cases i m) [
    | inl top ↦ ap (λ s. s % p) (sum-top i top) ∙ x i top
    | inr low ↦ subst (λ k. sum_on X n (λ j. c j * above m a b k j) % p ≡ 0) (let e : m + (i - m) ≡ i = omega arith in e)
        (ap (λ s. s % p) (sum-low (i - m)) ∙ y (i - m) (omega arith))
  ]

  pub top-zero : CombinesToZero p (above m a b) (m + t) n X c → CombinesToZero p a m n X c
  top-zero z i l = ap (λ s. s % p) (sym (sum-top i l)) ∙ z i (omega arith)

  pub low-zero : CombinesToZero p (above m a b) (m + t) n X c → CombinesToZero p b t n X c
  low-zero z i l = ap (λ s. s % p) (sym (sum-low i)) ∙ z (m + i) (omega arith)

-- another upper matrix with the same kernel
pub above-kernel : (p m t n : ℕ) (a a1 b : ℕ → ℕ → ℕ) → SameKernel p m n a a1 → SameKernel p (m + t) n (above m a b) (above m a1 b)
above-kernel p m t n a a1 b same = record {
  forward = λ X c z. above-zero p m t n a1 b X c (same.forward X c (top-zero p m t n a b X c z)) (low-zero p m t n a b X c z);
  back = λ X c z. above-zero p m t n a b X c (same.back X c (top-zero p m t n a1 b X c z)) (low-zero p m t n a1 b X c z);
}

-- ---- an independent set has at most as many columns as the ranks of both together
module _ (p : ℕ) (prime : IsPrime p) (m t n : ℕ) (a b : ℕ → ℕ → ℕ) where
  -- coefficients on Y that vanish in both bases' terms combine all columns to zero
  stacked_bases : (Y : ℕ → Bool) (A : Basis p a m n n Y nothing) (B : Basis p b t n n Y nothing) → IsIndependent p (above m a b) (m + t) n Y →
      size_on Y n ≤ size_on A.I n + size_on B.I n
  stacked_bases Y A B ind = go
      (choice n Y (λ j c. (i : ℕ) → i < m → sum_on A.I n (λ k. c k * a i k) % p ≡ a i j % p) (λ j l h. A.spans j l l h))
      (choice n Y (λ j c. (i : ℕ) → i < t → sum_on B.I n (λ k. c k * b i k) % p ≡ b i j % p) (λ j l h. B.spans j l l h))
    where
      rows : ℕ → Bool
      rows k = cond (ltb k n) (A.I k) (B.I (k - n))

      rows-first : (k : ℕ) → k < n → rows k ≡ A.I k
      rows-first k l = grind (arith, nat_tests)

      rows-next : (k : ℕ) → rows (n + k) ≡ B.I k
      rows-next k = at (ltb (n + k) n) (n + k - n) (let g : n ≤ n + k = omega arith in grind (arith, nat_tests)) (omega arith)
        where
          at : (c : Bool) (d : ℕ) → c ≡ false → d ≡ k → cond c (A.I (n + k)) (B.I d) ≡ B.I k
          at c d e q = ap (λ s. cond s (A.I (n + k)) (B.I d)) e ∙ ap B.I q

      counted : size_on rows (n + n) ≡ size_on A.I n + size_on B.I n
      counted = sum_on-join rows n n (λ _. 1) ∙ ap (λ s. s + size_on (λ k. rows (n + k)) n) (sum_on-same rows A.I n (λ _. 1) rows-first)
          ∙ ap (λ s. size_on A.I n + s) (sum_on-same (λ k. rows (n + k)) B.I n (λ _. 1) (λ k _. rows-next k))

      go : (D : ℕ → ℕ → ℕ) × ((j : ℕ) → j < n → Y j ≡ true → (i : ℕ) → i < m → sum_on A.I n (λ k. D j k * a i k) % p ≡ a i j % p) →
          (E : ℕ → ℕ → ℕ) × ((j : ℕ) → j < n → Y j ≡ true → (i : ℕ) → i < t →
          sum_on B.I n (λ k. E j k * b i k) % p ≡ b i j % p) → size_on Y n ≤ size_on A.I n + size_on B.I n
      go (D, ok_a) (E, ok_b) = elim (dichotomy p prime rows n (n + n) (above n (λ k j. D j k) (λ k j. E j k)) Y) [
        | inl few ↦ omega (arith, few.1, counted)
        | inr s ↦ absurd (s.non_zero (ind s.at (above-zero p m t n a b Y s.at
            (combined p m n a A.I Y s.at D (λ k kl kh. ap (λ x. x % p) (sym (sum-top p n n n (λ k j. D j k) (λ k j. E j k) Y s.at k kl))
            ∙ s.solves k (omega arith) (rows-first k kl ∙ kh)) ok_a)
            (combined p t n b B.I Y s.at E (λ k kl kh. ap (λ x. x % p) (sym (sum-low p n n n (λ k j. D j k) (λ k j. E j k) Y s.at k))
            ∙ s.solves (n + k) (omega arith) (rows-next k ∙ kh)) ok_b))
            s.place s.below s.member))
      ]

  pub above-size : (X Y : ℕ → Bool) (r s : ℕ) → IsWithin n Y X → IsIndependent p (above m a b) (m + t) n Y →
      IsRank p a m n X r → IsRank p b t n X s → size_on Y n ≤ r + s
  above-size X Y r s within ind R S = go (basis p prime a m n Y nothing (λ j _ h. absurd (differ refl h)) (none_independent p a m n) n)
      (basis p prime b t n Y nothing (λ j _ h. absurd (differ refl h)) (none_independent p b t n) n)
    where
      go : Basis p a m n n Y nothing → Basis p b t n n Y nothing → size_on Y n ≤ r + s
      go A B = omega (
        arith,
        stacked_bases Y A B ind,
        R.greatest A.I (λ j l h. within j l (A.within j l h)) A.independent,
        S.greatest B.I (λ j l h. within j l (B.within j l h)) B.independent,
      )

  pub rank-above : (X : ℕ → Bool) (r s u : ℕ) → IsRank p a m n X r → IsRank p b t n X s → IsRank p (above m a b) (m + t) n X u → u ≤ r + s
  rank-above X r s u R S U = omega (arith, U.reached.3, above-size X U.reached.0 r s U.reached.1 U.reached.2 R S)

  -- where b is zero on X outside the rows of R
  pub above-rows : (R X Y : ℕ → Bool) (r : ℕ) → ((i j : ℕ) → i < t → j < n → R i ≡ false → X j ≡ true → b i j % p ≡ 0) → IsWithin n Y X →
      IsIndependent p (above m a b) (m + t) n Y → IsRank p a m n X r →
      size_on Y n ≤ r + size_on R t
  above-rows R X Y r zeros within ind K = go (rank_exists p prime b t n X)
    where
      go : (s : ℕ) × IsRank p b t n X s → size_on Y n ≤ r + size_on R t
      go (s, T) = omega (arith, above-size X Y r s within ind K T, rank-rows p prime b t n R X s zeros T)
