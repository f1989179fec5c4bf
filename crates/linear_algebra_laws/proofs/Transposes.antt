-- The rank by rows is the rank by columns; so a row may go exactly where it is a combination of the others.
use Rattle.std.proofs.Common.{◌≡◌, ℕ, ◌-◌, ◌*◌, ◌%◌, ◌<◌, ◌≤◌, Bool, true, inl, inr, refl, ap, sym, subst, ◌∙◌, arith}
use Rattle.residue_theory.specs.Sets.{everything, nothing, without}
use Rattle.residue_theory.specs.Sums.{sum_on, size_on}
use Rattle.residue_theory.specs.Residues.{IsPrime}
use Rattle.residue_theory.proofs.SumLaws.{sum_on-ext, sum_on-mul, sum_on-swap}
use Rattle.residue_theory.proofs.SetLaws.{differ}
use Rattle.residue_theory.proofs.ResidueLaws.{agree-mul, agree-sum, vanishes-mul, vanishes-sum}
use Rattle.linear_algebra.specs.Columns.{IsIndependent, IsRank, IsCombination}
use Rattle.linear_algebra.specs.Products.{transposed}
use Rattle.linear_algebra.specs.Parts.{without_row}
use Rattle.linear_algebra_laws.proofs.Elimination.{dichotomy}
use Rattle.linear_algebra_laws.proofs.Ranks.{Basis, basis, basis-rank, none_independent, rank-unique, rank_exists}
use Rattle.linear_algebra_laws.proofs.ColumnRemoval.{column-stays, stays-column}

module _ (p : ℕ) (m n : ℕ) (a : ℕ → ℕ → ℕ) where
  -- a row that is a combination of the rows of Z vanishes on a combination of columns where they do
  row-vanishes : (Z Y : ℕ → Bool) (c : ℕ → ℕ) (i : ℕ) → IsCombination p (transposed a) n m Z i →
      ((k : ℕ) → k < m → Z k ≡ true → sum_on Y n (λ j. c j * a k j) % p ≡ 0) → sum_on Y n (λ j. c j * a i j) % p ≡ 0
  row-vanishes Z Y c i (d, s) zeros =
      sym (agree-sum p Y n (λ j. c j * sum_on Z m (λ k. d k * a k j)) (λ j. c j * a i j)
      (λ j jl _. agree-mul p (c j) (sum_on Z m (λ k. d k * a k j)) (a i j) (s j jl)))
      ∙ ap (λ y. y % p) turned
      ∙ vanishes-sum p Z m (λ k. d k * sum_on Y n (λ j. c j * a k j)) (λ k kl kh. vanishes-mul p (d k) (sum_on Y n (λ j. c j * a k j)) (zeros k kl kh))
    where
      turned : sum_on Y n (λ j. c j * sum_on Z m (λ k. d k * a k j)) ≡ sum_on Z m (λ k. d k * sum_on Y n (λ j. c j * a k j))
      turned =
          sum_on-ext Y n (λ j. c j * sum_on Z m (λ k. d k * a k j)) (λ j. sum_on Z m (λ k. c j * (d k * a k j)))
          (λ j _ _. sym (sum_on-mul Z m (c j) (λ k. d k * a k j)))
          ∙ sum_on-swap Y Z n m (λ k j. c j * (d k * a k j))
          ∙ sum_on-ext Z m (λ k. sum_on Y n (λ j. c j * (d k * a k j))) (λ k. d k * sum_on Y n (λ j. c j * a k j))
          (λ k _ _. sum_on-ext Y n (λ j. c j * (d k * a k j)) (λ j. d k * (c j * a k j)) (λ j _ _. omega arith) ∙ sum_on-mul Y n (d k) (λ j. c j * a k j))

  -- so independent columns are no more than rows that combine to every row
  columns-rows : IsPrime p → (Y : ℕ → Bool) → IsIndependent p a m n Y → (B : Basis p (transposed a) n m m everything nothing) → size_on Y n ≤ size_on B.I m
  columns-rows prime Y ind B = elim (dichotomy p prime B.I n m a Y) [
    | inl few ↦ few.1
    | inr s ↦ absurd (s.non_zero (ind s.at (λ i il. row-vanishes B.I Y s.at i (B.spans i il il refl) s.solves) s.place s.below s.member))
  ]

  pub rank-rows_at_least : IsPrime p → (r s : ℕ) → IsRank p a m n everything r → IsRank p (transposed a) n m everything s → r ≤ s
  rank-rows_at_least prime r s R S = go
      (basis p prime (transposed a) n m everything nothing (λ j _ h. absurd (differ refl h))
      (none_independent p (transposed a) n m) m)
    where
      go : Basis p (transposed a) n m m everything nothing → r ≤ s
      go B = omega (
        arith,
        R.reached.3,
        columns-rows prime R.reached.0 R.reached.2 B,
        rank-unique p (transposed a) n m everything (size_on B.I m) s (basis-rank p prime (transposed a) n m everything nothing B) S,
      )

-- the rank of a and of its transpose
pub rank-transposed : (p : ℕ) → IsPrime p → (m n : ℕ) (a : ℕ → ℕ → ℕ) (r : ℕ) → IsRank p a m n everything r → IsRank p (transposed a) n m everything r
rank-transposed p prime m n a r R = go (rank_exists p prime (transposed a) n m everything)
  where
    go : (s : ℕ) × IsRank p (transposed a) n m everything s → IsRank p (transposed a) n m everything r
    go (s, S) = subst (λ k. IsRank p (transposed a) n m everything k) same S
      where
        same : s ≡ r
        same = omega (arith, rank-rows_at_least p m n a prime r s R S, rank-rows_at_least p n m (transposed a) prime s r S R)

-- ---- a row that is a combination of the others
module _ (p : ℕ) (prime : IsPrime p) (m n : ℕ) (a : ℕ → ℕ → ℕ) (e : ℕ) (el : e < m) (r s : ℕ)
    (R : IsRank p a m n everything r) (S : IsRank p (without_row e a) (m - 1) n everything s) where
  pub combined_row-stays : IsCombination p (transposed a) n m (without everything e) e → s ≡ r
  combined_row-stays = column-stays p n m (transposed a) e el prime everything refl r s (rank-transposed p prime m n a r R)
      (rank-transposed p prime (m - 1) n (without_row e a) s S)

  pub stays-combined_row : s ≡ r → IsCombination p (transposed a) n m (without everything e) e
  stays-combined_row = stays-column p n m (transposed a) e el prime everything refl r s (rank-transposed p prime m n a r R)
      (rank-transposed p prime (m - 1) n (without_row e a) s S)
