-- Row operations keep the kernel, and so the rank of every set of columns.
use Rattle.std.proofs.Common.{◌≡◌, ℕ, ◌+◌, ◌*◌, ◌%◌, ◌<◌, ◌≢◌, Bool, inl, inr, ap, sym, subst, ◌∙◌, arith}
use Rattle.residue_theory.specs.Sums.{sum_on}
use Rattle.residue_theory.specs.Residues.{IsPrime}
use Rattle.linear_algebra.specs.Columns.{CombinesToZero, IsIndependent, IsRank}
use Rattle.linear_algebra.specs.RowOperations.{IsRowAdded, IsRowScaled}
use Rattle.linear_algebra.specs.Kernels.{SameKernel}
use Rattle.linear_algebra.specs.Products.{Agree}
use Rattle.residue_theory.proofs.SumLaws.{sum_on-add, sum_on-mul, nat_cases}
use Rattle.residue_theory.proofs.ResidueLaws.{vanishes-add, vanishes-mul, vanishes-rest, agree-mul, agree-sum, vanishes_factor}

pub kernel-refl : (p m n : ℕ) (a : ℕ → ℕ → ℕ) → SameKernel p m n a a
kernel-refl p m n a = record { forward = λ X c s. s; back = λ X c s. s }

pub kernel-trans : (p m n : ℕ) (a b d : ℕ → ℕ → ℕ) → SameKernel p m n a b → SameKernel p m n b d → SameKernel p m n a d
kernel-trans p m n a b d first second = record {
  forward = λ X c s. second.forward X c (first.forward X c s);
  back = λ X c s. first.back X c (second.back X c s);
}

pub kernel-sym : (p m n : ℕ) (a b : ℕ → ℕ → ℕ) → SameKernel p m n a b → SameKernel p m n b a
kernel-sym p m n a b same = record { forward = same.back; back = same.forward }

-- entries that agree give the same kernel
pub kernel_of-agree : (p m n : ℕ) (a b : ℕ → ℕ → ℕ) → Agree p m n a b → SameKernel p m n a b
kernel_of-agree p m n a b same = record {
  forward = λ X c z i il. agree-sum p X n (λ j. c j * b i j) (λ j. c j * a i j) (λ j jl _. agree-mul p (c j) (b i j) (a i j) (sym (same i j il jl))) ∙ z i il;
  back = λ X c z i il. agree-sum p X n (λ j. c j * a i j) (λ j. c j * b i j) (λ j jl _. agree-mul p (c j) (a i j) (b i j) (same i j il jl)) ∙ z i il;
}

pub independent_of-kernel : (p m n : ℕ) (a b : ℕ → ℕ → ℕ) (X : ℕ → Bool) → SameKernel p m n a b → IsIndependent p a m n X → IsIndependent p b m n X
independent_of-kernel p m n a b X same ind c s = ind c (same.back X c s)

pub rank_of-kernel : (p m n : ℕ) (a b : ℕ → ℕ → ℕ) (X : ℕ → Bool) (r : ℕ) → SameKernel p m n a b → IsRank p a m n X r → IsRank p b m n X r
rank_of-kernel p m n a b X r same R = record {
  reached = ((R.reached).0, (R.reached).1, independent_of-kernel p m n a b (R.reached).0 same (R.reached).2, (R.reached).3);
  greatest = λ Y within ind. R.greatest Y within (λ c s. ind c (same.forward Y c s));
}

-- ---- k times row s added to row t: what the rows of b combine to
module _ (p m n : ℕ) (a b : ℕ → ℕ → ℕ) (t s k : ℕ) (added : IsRowAdded p m n a b t s k) where
  pub row_added-other : (X : ℕ → Bool) (c : ℕ → ℕ) (i : ℕ) → i < m → i ≢ t → sum_on X n (λ j. c j * b i j) % p ≡ sum_on X n (λ j. c j * a i j) % p
  row_added-other X c i il ne = agree-sum p X n (λ j. c j * b i j) (λ j. c j * a i j) (λ j jl _. agree-mul p (c j) (b i j) (a i j) (added.others i j il jl ne))

  pub row_added-changed : (X : ℕ → Bool) (c : ℕ → ℕ) →
      sum_on X n (λ j. c j * b t j) % p ≡ (sum_on X n (λ j. c j * a t j) + k * sum_on X n (λ j. c j * a s j)) % p
  row_added-changed X c =
      agree-sum p X n (λ j. c j * b t j) (λ j. c j * a t j + k * (c j * a s j))
      (λ j jl _. agree-mul p (c j) (b t j) (a t j + k * a s j) (added.changed j jl) ∙ ap (λ w. w % p) (omega arith))
      ∙ ap (λ w. w % p) (sum_on-add X n (λ j. c j * a t j) (λ j. k * (c j * a s j))
      ∙ ap (λ w. sum_on X n (λ j. c j * a t j) + w) (sum_on-mul X n k (λ j. c j * a s j)))

  module _ (apart : t ≢ s) (tl : t < m) (sl : s < m) where
    pub row_added-kernel : SameKernel p m n a b
    row_added-kernel = record { forward = forward; back = back }
      where
        forward : (X : ℕ → Bool) (c : ℕ → ℕ) → CombinesToZero p a m n X c → CombinesToZero p b m n X c
        forward X c z i il = elim (nat_cases i t) [
          | inl q ↦ subst (λ w. sum_on X n (λ j. c j * b w j) % p ≡ 0) (sym q)
              (row_added-changed X c
              ∙ vanishes-add p (sum_on X n (λ j. c j * a t j)) (k * sum_on X n (λ j. c j * a s j)) (z t tl)
              (vanishes-mul p k (sum_on X n (λ j. c j * a s j)) (z s sl)))
          | inr ne ↦ row_added-other X c i il ne ∙ z i il
        ]

        back : (X : ℕ → Bool) (c : ℕ → ℕ) → CombinesToZero p b m n X c → CombinesToZero p a m n X c
        back X c z i il = elim (nat_cases i t) [
          | inl q ↦ subst (λ w. sum_on X n (λ j. c j * a w j) % p ≡ 0) (sym q) at_t
          | inr ne ↦ sym (row_added-other X c i il ne) ∙ z i il
        ]
          where
            at_s : sum_on X n (λ j. c j * a s j) % p ≡ 0
            at_s = sym (row_added-other X c s sl (λ q. apart (sym q))) ∙ z s sl

            at_t : sum_on X n (λ j. c j * a t j) % p ≡ 0
            at_t = vanishes-rest p (k * sum_on X n (λ j. c j * a s j)) (sum_on X n (λ j. c j * a t j))
                (ap (λ w. w % p) (omega arith) ∙ sym (row_added-changed X c) ∙ z t tl)
                (vanishes-mul p k (sum_on X n (λ j. c j * a s j)) at_s)

-- ---- row t multiplied by k
module _ (p m n : ℕ) (a b : ℕ → ℕ → ℕ) (t k : ℕ) (scaled : IsRowScaled p m n a b t k) where
  pub row_scaled-other : (X : ℕ → Bool) (c : ℕ → ℕ) (i : ℕ) → i < m → i ≢ t → sum_on X n (λ j. c j * b i j) % p ≡ sum_on X n (λ j. c j * a i j) % p
  row_scaled-other X c i il ne = agree-sum p X n (λ j. c j * b i j) (λ j. c j * a i j)
      (λ j jl _. agree-mul p (c j) (b i j) (a i j) (scaled.others i j il jl ne))

  pub row_scaled-changed : (X : ℕ → Bool) (c : ℕ → ℕ) → sum_on X n (λ j. c j * b t j) % p ≡ k * sum_on X n (λ j. c j * a t j) % p
  row_scaled-changed X c =
      agree-sum p X n (λ j. c j * b t j) (λ j. k * (c j * a t j))
      (λ j jl _. agree-mul p (c j) (b t j) (k * a t j) (scaled.changed j jl) ∙ ap (λ w. w % p) (omega arith))
      ∙ ap (λ w. w % p) (sum_on-mul X n k (λ j. c j * a t j))

  module _ (prime : IsPrime p) (tl : t < m) (ne_zero : k % p ≢ 0) where
    pub row_scaled-kernel : SameKernel p m n a b
    row_scaled-kernel = record { forward = forward; back = back }
      where
        forward : (X : ℕ → Bool) (c : ℕ → ℕ) → CombinesToZero p a m n X c → CombinesToZero p b m n X c
        forward X c z i il = elim (nat_cases i t) [
          | inl q ↦ subst (λ w. sum_on X n (λ j. c j * b w j) % p ≡ 0) (sym q)
              (row_scaled-changed X c ∙ vanishes-mul p k (sum_on X n (λ j. c j * a t j)) (z t tl))
          | inr ne ↦ row_scaled-other X c i il ne ∙ z i il
        ]

        back : (X : ℕ → Bool) (c : ℕ → ℕ) → CombinesToZero p b m n X c → CombinesToZero p a m n X c
        back X c z i il = elim (nat_cases i t) [
          | inl q ↦ subst (λ w. sum_on X n (λ j. c j * a w j) % p ≡ 0) (sym q)
              (vanishes_factor p prime k (sum_on X n (λ j. c j * a t j)) ne_zero (sym (row_scaled-changed X c) ∙ z t tl))
          | inr ne ↦ sym (row_scaled-other X c i il ne) ∙ z i il
        ]
