-- A column put beside a matrix: the rank stays exactly where it is a combination of the columns.
use Rattle.std.proofs.Common.{◌≡◌, ℕ, suc, ◌+◌, ◌-◌, ◌*◌, ◌%◌, ◌≤◌, cond, refl, ap, sym, subst, ◌∙◌, arith}
use Rattle.residue_theory.specs.Sets.{everything, without}
use Rattle.residue_theory.specs.Sums.{sum_on, sum_below}
use Rattle.residue_theory.specs.Residues.{IsPrime}
use Rattle.residue_theory.proofs.SumLaws.{sum_on-ext, sum_on-same, without-same, without-other}
use Rattle.linear_algebra.specs.Columns.{IsRank, Combines, IsCombination}
use Rattle.linear_algebra.specs.Parts.{with_column, without_column}
use Rattle.linear_algebra_laws.proofs.Kernels.{kernel_of-agree, rank_of-kernel}
use Rattle.linear_algebra_laws.proofs.SkipLaws.{skip-first}
use Rattle.linear_algebra_laws.proofs.ColumnRemoval.{column-stays, stays-column, removed_column-at_most}
use Rattle.linear_algebra_laws.proofs.Entries.{with_column-first, with_column-last}

module _ (p : ℕ) (m n : ℕ) (a : ℕ → ℕ → ℕ) (x : ℕ → ℕ) where
  -- the sum over the columns but the last
  sum-first : (c : ℕ → ℕ) (i : ℕ) → sum_on (without everything n) (n + 1) (λ j. c j * with_column n a x i j) ≡ sum_below n (λ j. c j * a i j)
  sum-first c i =
      ap (λ k. sum_on (without everything n) k (λ j. c j * with_column n a x i j)) (let q : n + 1 ≡ suc n = omega arith in q)
      ∙ ap (λ b. sum_on (without everything n) n (λ j. c j * with_column n a x i j) + cond b (c n * with_column n a x i n) 0) (without-same everything n)
      ∙ (let q : sum_on (without everything n) n (λ j. c j * with_column n a x i j) + 0 ≡ sum_on (without everything n)
      n (λ j. c j * with_column n a x i j) = omega arith in q)
      ∙ sum_on-same (without everything n) everything n (λ j. c j * with_column n a x i j) (λ j l. without-other everything n j (omega arith))
      ∙ sum_on-ext everything n (λ j. c j * with_column n a x i j) (λ j. c j * a i j) (λ j l _. ap (λ y. c j * y) (with_column-first n a x i j l))

  beside-combines : IsCombination p (with_column n a x) m (n + 1) (without everything n) n → Combines p a m n everything x
  beside-combines (c, s) = (c, λ i il. ap (λ y. y % p) (sym (sum-first c i)) ∙ s i il ∙ ap (λ y. y % p) (with_column-last n a x i))

  combines-beside : Combines p a m n everything x → IsCombination p (with_column n a x) m (n + 1) (without everything n) n
  combines-beside (c, s) = (c, λ i il. ap (λ y. y % p) (sum-first c i) ∙ s i il ∙ ap (λ y. y % p) (sym (with_column-last n a x i)))

  module _ (prime : IsPrime p) (r s : ℕ) (R : IsRank p a m n everything r) (T : IsRank p (with_column n a x) m (n + 1) everything s) where
    first_columns : IsRank p (without_column n (with_column n a x)) m (n + 1 - 1) everything r
    first_columns = subst (λ k. IsRank p (without_column n (with_column n a x)) m k everything r) (let q : n ≡ n + 1 - 1 = omega arith in q)
        (rank_of-kernel p m n a (without_column n (with_column n a x)) everything r (kernel_of-agree p m n a (without_column n (with_column n a x))
        (λ i j il jl. ap (λ y. y % p) (sym (ap (λ k. with_column n a x i k) (skip-first n j jl) ∙ with_column-first n a x i j jl)))) R)

    pub beside-at_most : (r ≤ s) × (s ≤ r + 1)
    beside-at_most = removed_column-at_most p m (n + 1) (with_column n a x) n (omega arith) prime everything refl s r T first_columns

    pub beside-stays : Combines p a m n everything x → s ≡ r
    beside-stays comb = sym (column-stays p m (n + 1) (with_column n a x) n (omega arith) prime everything refl s r T first_columns (combines-beside comb))

    pub stays-beside : s ≡ r → Combines p a m n everything x
    stays-beside q = beside-combines (stays-column p m (n + 1) (with_column n a x) n (omega arith) prime everything refl s r T first_columns (sym q))
