-- Systems of linear equations: one above another, and one that an invertible matrix makes of another.
use Rattle.std.proofs.Common.{◌≡◌, ℕ, ◌+◌, ◌-◌, ◌*◌, ◌%◌, ◌<◌, ◌≤◌, Bool, true, false, cond, ltb, not, ◌&&◌, inl, inr}
use Rattle.std.proofs.Common.{refl, ap, sym, subst, ◌∙◌, arith}
use Rattle.std.proofs.lemmas.Bool.Decides.{nat_tests}
use Rattle.std.proofs.Math.Nat.{zero-mod}
use Rattle.residue_theory.specs.Residues.{IsPrime}
use Rattle.residue_theory.specs.Sets.{everything}
use Rattle.residue_theory.specs.Sums.{sum_on, sum_below}
use Rattle.residue_theory.proofs.CountLaws.{sum_on-rest}
use Rattle.residue_theory.proofs.ResidueLaws.{agree-add, agree-mul, agree-sum, agree_of, lacks}
use Rattle.residue_theory.proofs.ResidueLaws.{vanishes-sum}
use Rattle.residue_theory.proofs.SetLaws.{both-second, lt_cases}
use Rattle.residue_theory.proofs.SumLaws.{sum_on-add, sum_on-ext, sum_on-mul}
use Rattle.linear_algebra.specs.Parts.{above}
use Rattle.linear_algebra.specs.Products.{product, IsInverse}
use Rattle.linear_algebra_laws.proofs.Entries.{above-low, above-top}
use Rattle.linear_algebra_laws.proofs.Products.{kernel-zero, sum-product}
use Rattle.block_laws.specs.Systems.{IsSystemSolution, stacked}

-- ---- numbers above others
pub stacked-top : (m : ℕ) (b d : ℕ → ℕ) (i : ℕ) → i < m → stacked m b d i ≡ b i
stacked-top m b d i l = grind (arith, nat_tests)

pub stacked-low : (m : ℕ) (b d : ℕ → ℕ) (i : ℕ) → stacked m b d (m + i) ≡ d i
stacked-low m b d i = low (ltb (m + i) m) (m + i - m) (let g : m ≤ m + i = omega arith in grind (arith, nat_tests)) (omega arith)
  where
    low : (t : Bool) (k : ℕ) → t ≡ false → k ≡ i → cond t (b (m + i)) (d k) ≡ d i
    low t k e q = ap (λ s. cond s (b (m + i)) (d k)) e ∙ ap d q

-- ---- a system above another
module _ (p m t n : ℕ) (a c : ℕ → ℕ → ℕ) (x b d : ℕ → ℕ) where
  top-sum : (i : ℕ) → i < m → sum_below n (λ j. x j * above m a c i j) ≡ sum_below n (λ j. x j * a i j)
  top-sum i l = sum_on-ext everything n (λ j. x j * above m a c i j) (λ j. x j * a i j) (λ j _ _. ap (λ s. x j * s) (above-top m a c i j l))

  low-sum : (i : ℕ) → sum_below n (λ j. x j * above m a c (m + i) j) ≡ sum_below n (λ j. x j * c i j)
  low-sum i = sum_on-ext everything n (λ j. x j * above m a c (m + i) j) (λ j. x j * c i j) (λ j _ _. ap (λ s. x j * s) (above-low m a c i j))

  pub solution-stacked : IsSystemSolution p a m n x b → IsSystemSolution p c t n x d → IsSystemSolution p (above m a c) (m + t) n x (stacked m b d)
  solution-stacked f g i l = elim (lt_cases i m) [
    | inl top ↦ ap (λ s. s % p) (top-sum i top) ∙ f i top ∙ ap (λ s. s % p) (sym (stacked-top m b d i top))
    | inr low ↦ subst (λ k. sum_below n (λ j. x j * above m a c k j) % p ≡ stacked m b d k % p) (let e : m + (i - m) ≡ i = omega arith in e)
        (ap (λ s. s % p) (low-sum (i - m)) ∙ g (i - m) (omega arith) ∙ ap (λ s. s % p) (sym (stacked-low m b d (i - m))))
  ]

  pub solution-top : IsSystemSolution p (above m a c) (m + t) n x (stacked m b d) → IsSystemSolution p a m n x b
  solution-top z i l = ap (λ s. s % p) (sym (top-sum i l)) ∙ z i (omega arith) ∙ ap (λ s. s % p) (stacked-top m b d i l)

  pub solution-low : IsSystemSolution p (above m a c) (m + t) n x (stacked m b d) → IsSystemSolution p c t n x d
  solution-low z i l = ap (λ s. s % p) (sym (low-sum i)) ∙ z (m + i) (omega arith) ∙ ap (λ s. s % p) (stacked-low m b d i)

-- ---- a system times an invertible matrix
module _ (p : ℕ) (prime : IsPrime p) (m n : ℕ) (S U a : ℕ → ℕ → ℕ) (inv : IsInverse p m S U) (x b : ℕ → ℕ) where
  pub solution-product : IsSystemSolution p a m n x b → IsSystemSolution p (product m S a) m n x (λ i. sum_below m (λ t. S i t * b t))
  solution-product s i il =
      ap (λ y. y % p) (sum-product m n S a everything x i)
      ∙ agree-sum p everything m (λ t. S i t * sum_below n (λ j. x j * a t j)) (λ t. S i t * b t)
      (λ t tl _. agree-mul p (S i t) (sum_below n (λ j. x j * a t j)) (b t) (s t tl))

  pub solution_of-product : IsSystemSolution p (product m S a) m n x (λ i. sum_below m (λ t. S i t * b t)) → IsSystemSolution p a m n x b
  solution_of-product s i il = agree_of p (sum_below n (λ j. x j * a i j)) ((p - 1) * b i) (b i)
      (kernel-zero p prime m S U inv (λ t. sum_below n (λ j. x j * a t j) + (p - 1) * b t) sent i il) (lacks p prime (b i))
    where
      spread : (u y k z : ℕ) → u * (y + k * z) ≡ u * y + k * (u * z)
      spread u y k z = omega arith

      parts : (i : ℕ) → sum_below m (λ t. S i t * (sum_below n (λ j. x j * a t j) + (p - 1) * b t)) ≡
          sum_below n (λ j. x j * product m S a i j) + (p - 1) * sum_below m (λ t. S i t * b t)
      parts i = sum_on-ext everything m (λ t. S i t * (sum_below n (λ j. x j * a t j) + (p - 1) * b t))
          (λ t. S i t * sum_below n (λ j. x j * a t j) + (p - 1) * (S i t * b t)) (λ t _ _. spread (S i t) (sum_below n (λ j. x j * a t j)) (p - 1) (b t))
          ∙ sum_on-add everything m (λ t. S i t * sum_below n (λ j. x j * a t j)) (λ t. (p - 1) * (S i t * b t))
          ∙ ap (λ y. y + sum_below m (λ t. (p - 1) * (S i t * b t))) (sym (sum-product m n S a everything x i))
          ∙ ap (λ y. sum_below n (λ j. x j * product m S a i j) + y) (sum_on-mul everything m (p - 1) (λ t. S i t * b t))

      sent : (i : ℕ) → i < m → sum_below m (λ t. S i t * (sum_below n (λ j. x j * a t j) + (p - 1) * b t)) % p ≡ 0
      sent i il = ap (λ y. y % p) (parts i)
          ∙ agree-add p (sum_below n (λ j. x j * product m S a i j)) (sum_below m (λ t. S i t * b t)) ((p - 1) * sum_below m (λ t. S i t * b t))
          ((p - 1) * sum_below m (λ t. S i t * b t)) (s i il) refl
          ∙ lacks p prime (sum_below m (λ t. S i t * b t))

-- ---- a sum over all, where the rest vanishes
pub sum-outside : (p n : ℕ) (X : ℕ → Bool) (f : ℕ → ℕ) → ((j : ℕ) → j < n → X j ≡ false → f j % p ≡ 0) → sum_below n f % p ≡ sum_on X n f % p
sum-outside p n X f rest = ap (λ s. s % p) (sum_on-rest everything X n f (λ _ _ _. refl))
    ∙ agree-add p (sum_on X n f) (sum_on X n f) (sum_on (λ j. everything j && not (X j)) n f) 0 refl
    (vanishes-sum p (λ j. everything j && not (X j)) n f (λ j jl jh. rest j jl (left_out (X j) (both-second true (not (X j)) jh))) ∙ sym (zero-mod p))
    ∙ ap (λ s. s % p) (let e : sum_on X n f + 0 ≡ sum_on X n f = omega arith in e)
  where
    left_out : (b : Bool) → not b ≡ true → b ≡ false
    left_out true h = absurd (grind arith)
    left_out false h = refl
