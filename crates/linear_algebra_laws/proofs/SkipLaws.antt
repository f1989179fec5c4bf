-- Numbers in order but for one, and sums over them.
use Rattle.std.proofs.Common.{◌≡◌, ℕ, zero, suc, ◌+◌, ◌-◌, ◌<◌, ◌≤◌, ◌≢◌, Bool, cond, ltb, ◌⊎◌, inl, inr, ap, sym, subst, ◌∙◌, arith}
use Rattle.std.proofs.lemmas.Bool.Decides.{nat_tests}
use Rattle.residue_theory.specs.Sets.{without}
use Rattle.residue_theory.specs.Sums.{sum_on}
use Rattle.residue_theory.proofs.SumLaws.{sum_on-ext, sum_on-same, nat_cases, without-same, without-other}
use Rattle.linear_algebra.specs.Parts.{skip}
pub use Rattle.linear_algebra.specs.Parts.{unskip}

pub skip-other : (v k : ℕ) → skip v k ≢ v
skip-other v k = grind (arith, nat_tests)

pub skip-first : (v k : ℕ) → k < v → skip v k ≡ k
skip-first v k l = grind (arith, nat_tests)

pub skip-later : (v k : ℕ) → v ≤ k → skip v k ≡ k + 1
skip-later v k le = grind (arith, nat_tests)

pub skip-below : (v k n : ℕ) → v < n → k < n - 1 → skip v k < n
skip-below v k n vl kl = grind (arith, nat_tests)

pub unskip-below : (v i n : ℕ) → v < n → i < n → i ≢ v → unskip v i < n - 1
unskip-below v i n vl il ne = grind (arith, nat_tests)

pub skip-unskip : (v i : ℕ) → i ≢ v → skip v (unskip v i) ≡ i
skip-unskip v i ne = grind (arith, nat_tests)

pub unskip-skip : (v k : ℕ) → unskip v (skip v k) ≡ k
unskip-skip v k = grind (arith, nat_tests)

-- a sum without v runs over the other numbers in order
sum_on-skip_last : (X : ℕ → Bool) (n : ℕ) (f : ℕ → ℕ) → sum_on (without X n) (suc n) f ≡ sum_on (λ k. X (skip n k)) n (λ k. f (skip n k))
sum_on-skip_last X n f =
    ap (λ b. sum_on (without X n) n f + cond b (f n) 0) (without-same X n)
    ∙ (let e : sum_on (without X n) n f + 0 ≡ sum_on (without X n) n f = omega arith in e)
    ∙ sum_on-same (without X n) X n f (λ j l. without-other X n j (omega arith))
    ∙ sum_on-ext X n f (λ k. f (skip n k)) (λ k l _. ap f (sym (skip-first n k l)))
    ∙ sum_on-same X (λ k. X (skip n k)) n (λ k. f (skip n k)) (λ k l. ap X (sym (skip-first n k l)))

pub sum_on-skip : (X : ℕ → Bool) (n v : ℕ) (f : ℕ → ℕ) → v < suc n → sum_on (without X v) (suc n) f ≡ sum_on (λ k. X (skip v k)) n (λ k. f (skip v k))
sum_on-skip X zero v f l = subst (λ w. sum_on (without X w) (suc zero) f ≡ sum_on (λ k. X (skip w k)) zero (λ k. f (skip w k)))
    (let q : zero ≡ v = omega arith in q) (sum_on-skip_last X zero f)
sum_on-skip X (suc n) v f l = go (nat_cases v (suc n)) (λ less. sum_on-skip X n v f less)
  where
    go : (v ≡ suc n) ⊎ (v ≢ suc n) → (v < suc n → sum_on (without X v) (suc n) f ≡ sum_on (λ k. X (skip v k)) n (λ k. f (skip v k))) →
        sum_on (without X v) (suc (suc n)) f ≡ sum_on (λ k. X (skip v k)) (suc n) (λ k. f (skip v k))
    go (inl q) ih = subst (λ w. sum_on (without X w) (suc (suc n)) f ≡ sum_on (λ k. X (skip w k)) (suc n)
        (λ k. f (skip w k))) (sym q) (sum_on-skip_last X (suc n) f)
    go (inr ne) ih =
        ap (λ s. s + cond (without X v (suc n)) (f (suc n)) 0) (ih (omega arith))
        ∙ ap (λ b. sum_on (λ k. X (skip v k)) n (λ k. f (skip v k)) + cond b (f (suc n)) 0) (without-other X v (suc n) (λ q. ne (sym q)))
        ∙ ap (λ i. sum_on (λ k. X (skip v k)) n (λ k. f (skip v k)) + cond (X i) (f i) 0) (let q : suc n ≡ skip v n =
        omega (arith, skip-later v n (omega arith)) in q)
