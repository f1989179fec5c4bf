-- A matrix with one column less: the rank stays exactly where that column is a combination of the others.
use Rattle.std.proofs.Common.{◌≡◌, ℕ, suc, ◌+◌, ◌-◌, ◌*◌, ◌%◌, ◌<◌, ◌≤◌, ◌≢◌, Bool, true, false, not, ◌&&◌, eqb, inl, inr, refl, ap, sym, subst, ◌∙◌, arith}
use Rattle.std.proofs.lemmas.Bool.Decides.{nat_tests}
use Rattle.residue_theory.specs.Sets.{nothing, without, IsWithin}
use Rattle.residue_theory.specs.Sums.{sum_on, size_on}
use Rattle.residue_theory.specs.Residues.{IsPrime}
use Rattle.residue_theory.proofs.SumLaws.{sum_on-ext, sum_on-same, nat_cases, without-member, member-without}
use Rattle.residue_theory.proofs.SetLaws.{differ}
use Rattle.residue_theory.proofs.CountLaws.{size-without}
use Rattle.linear_algebra.specs.Columns.{CombinesToZero, IsIndependent, IsRank, IsCombination}
use Rattle.linear_algebra.specs.Parts.{skip, without_column}
use Rattle.linear_algebra_laws.proofs.Ranks.{Basis, basis, basis-rank, rank_of-basis, rank_exists, rank-unique}
use Rattle.linear_algebra_laws.proofs.Ranks.{combination_of-largest, combines-through, combination-within}
use Rattle.linear_algebra_laws.proofs.Ranks.{independent-within, none_independent}
use Rattle.linear_algebra_laws.proofs.RankLaws.{rank-monotone}
use Rattle.linear_algebra_laws.proofs.SkipLaws.{skip-other, skip-below, unskip, unskip-below, skip-unskip, unskip-skip, sum_on-skip}

-- a set of the columns but v, as columns of the whole
abbrev pub spread : ℕ → (ℕ → Bool) → ℕ → Bool
spread v Y j = not (eqb j v) && Y (unskip v j)

spread-skip : (v : ℕ) (Y : ℕ → Bool) (k : ℕ) → spread v Y (skip v k) ≡ Y k
spread-skip v Y k = at (eqb (skip v k) v) (not_v (skip v k) v (skip-other v k)) ∙ ap Y (unskip-skip v k)
  where
    not_v : (x y : ℕ) → x ≢ y → eqb x y ≡ false
    not_v x y ne = grind (arith, nat_tests)

    at : (b : Bool) → b ≡ false → not b && Y (unskip v (skip v k)) ≡ Y (unskip v (skip v k))
    at b e = ap (λ x. not x && Y (unskip v (skip v k))) e

spread-second : (v : ℕ) (Y : ℕ → Bool) (j : ℕ) → spread v Y j ≡ true → Y (unskip v j) ≡ true
spread-second v Y j h = second (not (eqb j v)) (Y (unskip v j)) h
  where
    second : (a b : Bool) → a && b ≡ true → b ≡ true
    second a b h = grind arith

module _ (p m n : ℕ) (a : ℕ → ℕ → ℕ) (v : ℕ) (vl : v < n) where
  -- a sum over columns but v, and its size
  sum-skip : (X : ℕ → Bool) (f : ℕ → ℕ) → sum_on (without X v) n f ≡ sum_on (λ k. X (skip v k)) (n - 1) (λ k. f (skip v k))
  sum-skip X f = subst (λ w. sum_on (without X v) w f ≡ sum_on (λ k. X (skip v k)) (n - 1) (λ k. f (skip v k))) (let q : suc (n - 1) ≡ n = omega arith in q)
      (sum_on-skip X (n - 1) v f (omega arith))

  skipped : (X : ℕ → Bool) (k : ℕ) → X (skip v k) ≡ true → without X v (skip v k) ≡ true
  skipped X k h = member-without X v (skip v k) h (skip-other v k)

  pub removed_column-independent : (X : ℕ → Bool) → IsIndependent p a m n (without X v) → IsIndependent p (without_column v a) m (n - 1) (λ k. X (skip v k))
  removed_column-independent X ind c s k kl kh = sym (ap (λ i. c i % p) (unskip-skip v k))
      ∙ ind (λ j. c (unskip v j)) solves (skip v k) (skip-below v k n vl kl) (skipped X k kh)
    where
      solves : CombinesToZero p a m n (without X v) (λ j. c (unskip v j))
      solves i il = ap (λ y. y % p) (sum-skip X (λ j. c (unskip v j) * a i j)
          ∙ sum_on-ext (λ k. X (skip v k)) (n - 1) (λ k. c (unskip v (skip v k)) * a i (skip v k)) (λ k. c k * without_column v a i k)
          (λ k _ _. ap (λ l. c l * a i (skip v k)) (unskip-skip v k))) ∙ s i il

  pub whole_column-independent : (X : ℕ → Bool) → IsIndependent p (without_column v a) m (n - 1) (λ k. X (skip v k)) → IsIndependent p a m n (without X v)
  whole_column-independent X ind c s j jl jh = at (without-member X v j jh)
    where
      at : (X j ≡ true) × (j ≢ v) → c j % p ≡ 0
      at (member, ne) = sym (ap (λ i. c i % p) (skip-unskip v j ne))
          ∙ ind (λ k. c (skip v k)) (λ i il. ap (λ y. y % p) (sym (sum-skip X (λ j. c j * a i j))) ∙ s i il)
          (unskip v j) (unskip-below v j n vl jl ne) (ap X (skip-unskip v j ne) ∙ member)

  -- the rank of the columns but v is the same in both
  pub removed_column-rank : (X : ℕ → Bool) (s : ℕ) → IsRank p a m n (without X v) s → IsRank p (without_column v a) m (n - 1) (λ k. X (skip v k)) s
  removed_column-rank X s R = record {
    reached =
        ((λ k. Y (skip v k)), (λ k kl kh. (without-member X v (skip v k) (R.reached.1 (skip v k) (skip-below v k n vl kl) kh)).0), free, size);
    greatest = greatest;
  }
    where
      Y : ℕ → Bool
      Y = R.reached.0

      free : IsIndependent p (without_column v a) m (n - 1) (λ k. Y (skip v k))
      free = removed_column-independent Y (independent-within p a m n (without Y v) Y (λ j _ h. (without-member Y v j h).0) R.reached.2)

      no_v : (j : ℕ) → j < n → without Y v j ≡ Y j
      no_v j jl = go (Y j) refl
        where
          go : (b : Bool) → Y j ≡ b → without Y v j ≡ Y j
          go true e = member-without Y v j e (without-member X v j (R.reached.1 j jl e)).1 ∙ sym e
          go false e = ap (λ x. x && not (eqb j v)) e ∙ sym e

      size : size_on (λ k. Y (skip v k)) (n - 1) ≡ s
      size = sym (sum-skip Y (λ _. 1)) ∙ sum_on-same (without Y v) Y n (λ _. 1) no_v ∙ R.reached.3

      greatest : (Z : ℕ → Bool) → IsWithin (n - 1) Z (λ k. X (skip v k)) → IsIndependent p (without_column v a) m (n - 1) Z → size_on Z (n - 1) ≤ s
      greatest Z within ind = omega (
        arith,
        sum_on-same (λ k. spread v Z (skip v k)) Z (n - 1) (λ _. 1) (λ k _. spread-skip v Z k),
        sum-skip (spread v Z) (λ _. 1),
        R.greatest (without (spread v Z) v) inside
            (whole_column-independent (spread v Z) (independent-within p (without_column v a) m (n - 1) (λ k. spread v Z (skip v k)) Z
            (λ k _ h. sym (spread-skip v Z k) ∙ h) ind)),
      )
        where
          inside : IsWithin n (without (spread v Z) v) (without X v)
          inside j jl jh = at (without-member (spread v Z) v j jh)
            where
              at : (spread v Z j ≡ true) × (j ≢ v) → without X v j ≡ true
              at (h, ne) = member-without X v j (sym (ap X (skip-unskip v j ne)) ∙ within (unskip v j) (unskip-below v j n vl jl ne) (spread-second v Z j h)) ne

  module _ (prime : IsPrime p) (X : ℕ → Bool) (member : X v ≡ true) (r s : ℕ) (R : IsRank p a m n X r)
      (T : IsRank p (without_column v a) m (n - 1) (λ k. X (skip v k)) s) where
    others : IsRank p a m n (without X v) s
    others = go (rank_exists p prime a m n (without X v))
      where
        go : (t : ℕ) × IsRank p a m n (without X v) t → IsRank p a m n (without X v) s
        go (t, K) = subst (λ u. IsRank p a m n (without X v) u)
            (rank-unique p (without_column v a) m (n - 1) (λ k. X (skip v k)) t s (removed_column-rank X t K) T) K

    in_x : IsWithin n (without X v) X
    in_x j _ h = (without-member X v j h).0

    -- the rank is the same, or one less
    pub removed_column-at_most : (s ≤ r) × (r ≤ s + 1)
    removed_column-at_most = (
      rank-monotone p a m n (without X v) X s r in_x others R,
      omega (
        arith,
        R.reached.3,
        size-without R.reached.0 n v vl,
        others.greatest (without R.reached.0 v)
            (λ j jl jh. let w : (R.reached.0 j ≡ true) × (j ≢ v) = without-member R.reached.0 v j jh in member-without X v j (R.reached.1 j jl w.0) w.1)
            (independent-within p a m n (without R.reached.0 v) R.reached.0 (λ j _ h. (without-member R.reached.0 v j h).0) R.reached.2),
      ),
    )

    -- it stays where the column is a combination of the others
    pub column-stays : IsCombination p a m n (without X v) v → s ≡ r
    column-stays comb = go (basis p prime a m n (without X v) nothing (λ j _ h. absurd (differ refl h)) (none_independent p a m n) n)
      where
        go : Basis p a m n n (without X v) nothing → s ≡ r
        go B = rank-unique p a m n (without X v) s (size_on B.I n) others (basis-rank p prime a m n (without X v) nothing B)
            ∙ rank-unique p a m n X (size_on B.I n) r (rank_of-basis p prime a m n X B.I (λ j l h. in_x j l (B.within j l h)) B.independent spans) R
          where
            spans : (j : ℕ) → j < n → X j ≡ true → IsCombination p a m n B.I j
            spans j jl jh = elim (nat_cases j v) [
              | inl q ↦ subst (λ k. IsCombination p a m n B.I k) (sym q)
                  (combines-through p m n a B.I (without X v) (λ i. a i v) (λ k kl kh. B.spans k kl kl kh) comb)
              | inr ne ↦ B.spans j jl jl (member-without X v j jh ne)
            ]

    -- and only there
    pub stays-column : s ≡ r → IsCombination p a m n (without X v) v
    stays-column q = combination-within p a m n others.reached.0 (without X v) v others.reached.1
        (combination_of-largest p prime a m n X others.reached.0 (λ j l h. in_x j l (others.reached.1 j l h)) others.reached.2
        (subst (λ u. IsRank p a m n X u) (sym (others.reached.3 ∙ q)) R) v vl member)
