-- Two matrices that differ in two rows alone: where a column is the unit column of the one row, it matters not which of the
-- row's other entries are left. So they have the same rank.
use Rattle.std.proofs.Common.{◌≡◌, ℕ, zero, suc, ◌+◌, ◌*◌, ◌%◌, ◌<◌, ◌≤◌, ◌≢◌, Bool, true, false, inl, inr, refl, ap, sym, subst, ◌∙◌, arith}
use Rattle.std.proofs.Math.Nat.{zero-mod}
use Rattle.residue_theory.proofs.CountLaws.{sum-with_one}
use Rattle.residue_theory.proofs.ResidueLaws.{vanishes-mul, vanishes-rest, vanishes-sum, vanishes_by}
use Rattle.residue_theory.proofs.SetLaws.{differ, not_true, with_one-other}
use Rattle.residue_theory.proofs.SumLaws.{member-without, nat_cases, size_on-within, sum_on-ext, sum_on-without, without-member, without-same}
use Rattle.residue_theory.specs.Residues.{IsPrime}
use Rattle.residue_theory.specs.Sets.{IsWithin, everything, with_one, without}
use Rattle.residue_theory.specs.Sums.{size_on, sum_on}
use Rattle.linear_algebra.specs.Columns.{IsIndependent, IsRank}
use Rattle.linear_algebra.specs.Parts.{part}
use Rattle.linear_algebra_laws.proofs.Entries.{part-other_row, part-shown}
use Rattle.linear_algebra_laws.proofs.RankLaws.{no_zero_column}
use Rattle.linear_algebra_laws.proofs.Ranks.{independent-within, rank_exists}
use Rattle.linear_algebra_laws.proofs.RowRemoval.{part-removed, removed-drop}

-- g and h are the same but in rows e and t. In g column z has 1 at row e alone, and row t is empty;
-- in h row e has 1 at z alone, and row t nothing but at z
pub record AreSwapped (m n : ℕ) (g h : ℕ → ℕ → ℕ) (e t z : ℕ) : Type 0 where
  pub same : (i j : ℕ) → i ≢ e → i ≢ t → g i j ≡ h i j
  pub g_column : (i : ℕ) → i < m → i ≢ e → g i z ≡ 0
  pub g_row : (j : ℕ) → g t j ≡ 0
  pub g_one : g e z ≡ suc zero
  pub h_column : (i : ℕ) → i < m → i ≢ e → i ≢ t → h i z ≡ 0
  pub h_e : (j : ℕ) → j < n → j ≢ z → h e j ≡ 0
  pub h_t : (j : ℕ) → j < n → j ≢ z → h t j ≡ 0
  pub h_one : h e z ≡ suc zero

module _ (p : ℕ) (prime : IsPrime p) (m n : ℕ) (g h : ℕ → ℕ → ℕ) (e t z : ℕ) (el : e < m) (zl : z < n) (s : AreSwapped m n g h e t z) where
  -- g with row e emptied
  abbrev rowless : ℕ → ℕ → ℕ
  rowless = part (without everything e) everything g

  zeros : (Y : ℕ → Bool) (c f : ℕ → ℕ) → ((j : ℕ) → j < n → Y j ≡ true → f j ≡ 0) → sum_on Y n (λ j. c j * f j) % p ≡ 0
  zeros Y c f all = vanishes-sum p Y n (λ j. c j * f j) (λ j jl jh. vanishes-mul p (c j) (f j) (ap (λ x. x % p) (all j jl jh) ∙ zero-mod p))

  -- what z adds to a sum
  with_z : (Z : ℕ → Bool) → Z z ≡ false → (c : ℕ → ℕ) (b : ℕ → ℕ → ℕ) (i : ℕ) → sum_on (with_one Z z) n (λ j. c j * b i j) ≡ sum_on Z n
      (λ j. c j * b i j) + c z * b i z
  with_z Z none c b i = sum-with_one Z n z (λ j. c j * b i j) zl none

  drop_z : (Z : ℕ → Bool) → Z z ≡ false → (c : ℕ → ℕ) (b : ℕ → ℕ → ℕ) (i : ℕ) → b i z ≡ 0 → sum_on (with_one Z z) n
      (λ j. c j * b i j) % p ≡ 0 → sum_on Z n (λ j. c j * b i j) % p ≡ 0
  drop_z Z none c b i q r = vanishes_by p _ (sum_on (with_one Z z) n (λ j. c j * b i j))
      (plain (sum_on Z n (λ j. c j * b i j)) (c z) (b i z) q ∙ sym (with_z Z none c b i)) r
    where
      plain : (s c d : ℕ) → d ≡ 0 → s ≡ s + c * d
      plain s c d q = (let w : s ≡ s + c * 0 = omega arith in w) ∙ ap (λ y. s + c * y) (sym q)

  at_z : (Z : ℕ → Bool) → Z z ≡ false → (c : ℕ → ℕ) (b : ℕ → ℕ → ℕ) → b e z ≡ suc zero → sum_on Z n (λ j. c j * b e j) % p ≡ 0 → sum_on
      (with_one Z z) n (λ j. c j * b e j) % p ≡ 0 → c z % p ≡ 0
  at_z Z none c b q first r = vanishes-rest p (sum_on Z n (λ j. c j * b e j)) (c z)
      (vanishes_by p _ (sum_on (with_one Z z) n (λ j. c j * b e j))
      (plain (sum_on Z n (λ j. c j * b e j)) (c z) (b e z) q ∙ sym (with_z Z none c b e)) r) first
    where
      plain : (s c d : ℕ) → d ≡ suc zero → s + c ≡ s + c * d
      plain s c d q = (let w : s + c ≡ s + c * suc zero = omega arith in w) ∙ ap (λ y. s + c * y) (sym q)

  coefficients : (Z : ℕ → Bool) (c : ℕ → ℕ) → ((j : ℕ) → j < n → Z j ≡ true → c j % p ≡ 0) → c z % p ≡ 0 →
      (j : ℕ) → j < n → with_one Z z j ≡ true → c j % p ≡ 0
  coefficients Z c low high j jl jh = elim (nat_cases j z) [
    | inl q ↦ subst (λ k. c k % p ≡ 0) (sym q) high
    | inr ne ↦ low j jl
        (with_one-other Z z j jh ne)
  ]

  vanishing : (Z : ℕ → Bool) (c : ℕ → ℕ) (f : ℕ → ℕ) → ((j : ℕ) → j < n → Z j ≡ true → c j % p ≡ 0) → sum_on Z n (λ j. c j * f j) % p ≡ 0
  vanishing Z c f low = vanishes-sum p Z n (λ j. c j * f j)
      (λ j jl jh. vanishes_by p _ (f j * c j) (omega arith) (vanishes-mul p (f j) (c j) (low j jl jh)))

  -- ---- independent columns of g: all but one are so without row e, and z joins them in h
  to_h : (C : ℕ → Bool) → IsIndependent p g m n C → (Y : ℕ → Bool) × IsIndependent p h m n Y × (size_on C n ≤ size_on Y n)
  to_h C ind = go (removed-drop p prime m m n g rowless e (part-removed p m n g e el) C ind)
    where
      go : (Z : ℕ → Bool) × IsWithin n Z C × IsIndependent p rowless m n Z × (size_on C n ≤ size_on Z n + 1) →
          (Y : ℕ → Bool) × IsIndependent p h m n Y × (size_on C n ≤ size_on Y n)
      go (Z, within, free, size) = (with_one Z z, indep, omega (arith, size, sum-with_one Z n z (λ _. 1) zl out))
        where
          row_gone : (i j : ℕ) → i ≡ e → rowless i j ≡ 0
          row_gone i j q = part-other_row (without everything e) everything g i j
              (not_true (without everything e i) (λ w. (without-member everything e i w).1 q))

          row_kept : (i j : ℕ) → i ≢ e → rowless i j ≡ g i j
          row_kept i j ne = part-shown (without everything e) everything g i j (member-without everything e i refl ne) refl

          empty : (i : ℕ) → i < m → rowless i z ≡ 0
          empty i il = elim (nat_cases i e) [ inl q ↦ row_gone i z q | inr ne ↦ row_kept i z ne ∙ s.g_column i il ne ]

          out : Z z ≡ false
          out = not_true (Z z) (λ q. no_zero_column p prime rowless m n Z free z zl q (λ i il. ap (λ x. x % p) (empty i il) ∙ zero-mod p))

          indep : IsIndependent p h m n (with_one Z z)
          indep c k = coefficients Z c low (at_z Z out c h s.h_one (vanishing Z c (λ j. h e j) low) (k e el))
            where
              row : (i : ℕ) → i < m → sum_on Z n (λ j. c j * rowless i j) % p ≡ 0
              row i il = elim (nat_cases i e) [
                | inl q ↦ zeros Z c (λ j. rowless i j) (λ j _ _. row_gone i j q)
                | inr ne ↦ elim (nat_cases i t) [
                  | inl q ↦ zeros Z c (λ j. rowless i j) (λ j _ _. row_kept i j ne ∙ ap (λ x. g x j) q ∙ s.g_row j)
                  | inr o ↦ ap (λ x. x % p) (sum_on-ext Z n (λ j. c j * rowless i j) (λ j. c j * h i j)
                      (λ j _ _. ap (λ x. c j * x) (row_kept i j ne ∙ s.same i j ne o)))
                      ∙ drop_z Z out c h i (s.h_column i il ne o) (k i il)
                ]
              ]

              low : (j : ℕ) → j < n → Z j ≡ true → c j % p ≡ 0
              low = free c row

  -- ---- independent columns of h: z may be put in the place of z, or joins them
  to_g : (C : ℕ → Bool) → IsIndependent p h m n C → (Y : ℕ → Bool) × IsIndependent p g m n Y × (size_on C n ≤ size_on Y n)
  to_g C ind = (with_one (without C z) z, indep, size (C z) refl)
    where
      out : without C z z ≡ false
      out = without-same C z

      not_z : (j : ℕ) → without C z j ≡ true → j ≢ z
      not_z j q = (without-member C z j q).1

      free : IsIndependent p h m n (without C z)
      free = independent-within p h m n (without C z) C (λ j _ q. (without-member C z j q).0) ind

      size : (b : Bool) → C z ≡ b → size_on C n ≤ size_on (with_one (without C z) z) n
      size true q = omega (arith, sum_on-without C n z (λ _. 1) zl q, sum-with_one (without C z) n z (λ _. 1) zl out)
      size false q = omega (
        arith,
        size_on-within (without C z) C n
            (λ j _ w. member-without C z j w (λ r. differ q (subst (λ k. C k ≡ true) r w))),
        sum-with_one (without C z) n z (λ _. 1) zl out,
      )

      indep : IsIndependent p g m n (with_one (without C z) z)
      indep c k = coefficients (without C z) c low (at_z (without C z) out c g s.g_one (vanishing (without C z) c (λ j. g e j) low) (k e el))
        where
          row : (i : ℕ) → i < m → sum_on (without C z) n (λ j. c j * h i j) % p ≡ 0
          row i il = elim (nat_cases i e) [
            | inl q ↦ zeros (without C z) c (λ j. h i j) (λ j jl w. subst (λ x. h x j ≡ 0) (sym q) (s.h_e j jl (not_z j w)))
            | inr ne ↦ elim (nat_cases i t) [
              | inl q ↦ zeros (without C z) c (λ j. h i j) (λ j jl w. subst (λ x. h x j ≡ 0) (sym q) (s.h_t j jl (not_z j w)))
              | inr o ↦ ap (λ x. x % p) (sum_on-ext (without C z) n (λ j. c j * h i j) (λ j. c j * g i j)
                  (λ j _ _. ap (λ x. c j * x) (sym (s.same i j ne o))))
                  ∙ drop_z (without C z) out c g i (s.g_column i il ne) (k i il)
            ]
          ]

          low : (j : ℕ) → j < n → without C z j ≡ true → c j % p ≡ 0
          low = free c row

  -- ---- the ranks
  same_size : (a b : ℕ → ℕ → ℕ) → ((C : ℕ → Bool) → IsIndependent p a m n C → (Y : ℕ → Bool) × IsIndependent p b m n Y ×
      (size_on C n ≤ size_on Y n)) →
      (u v : ℕ) → IsRank p a m n everything u → IsRank p b m n everything v → u ≤ v
  same_size a b move u v K W = go (move K.reached.0 K.reached.2)
    where
      go : (Y : ℕ → Bool) × IsIndependent p b m n Y × (size_on K.reached.0 n ≤ size_on Y n) → u ≤ v
      go (Y, ind, le) = omega (arith, le, K.reached.3, W.greatest Y (λ _ _ _. refl) ind)

  pub swapped-there : (r : ℕ) → IsRank p g m n everything r → IsRank p h m n everything r
  swapped-there r K = go (rank_exists p prime h m n everything)
    where
      go : (u : ℕ) × IsRank p h m n everything u → IsRank p h m n everything r
      go (u, W) = subst (λ k. IsRank p h m n everything k) (omega (arith, same_size g h to_h r u K W, same_size h g to_g u r W K)) W

  pub swapped-back : (r : ℕ) → IsRank p h m n everything r → IsRank p g m n everything r
  swapped-back r W = go (rank_exists p prime g m n everything)
    where
      go : (u : ℕ) × IsRank p g m n everything u → IsRank p g m n everything r
      go (u, K) = subst (λ k. IsRank p g m n everything k) (omega (arith, same_size g h to_h u r K W, same_size h g to_g r u W K)) K
