-- Primes by trial division, which the check computes.
use Rattle.std.proofs.Common.{◌≡◌, ℕ, zero, suc, ◌+◌, ◌*◌, ◌%◌, ◌/◌, ◌^◌, ◌<◌, ◌≤◌, ◌≢◌, Bool, true, not, ◌&&◌, eqb, ◌⊎◌}
use Rattle.std.proofs.Common.{inl, inr, refl, ap, sym, subst, ◌∙◌, arith}
use Rattle.std.proofs.Math.Nat.{mod-add-div, mul-le-mul, mul-mod_left}
use Rattle.std.proofs.lemmas.Bool.Decides.{nat_tests}
use Rattle.residue_theory.specs.Residues.{IsPrime}

-- none of the 2 ^ k numbers from `low` on divides p: halves keep the recursion shallow
pub trial : ℕ → ℕ → ℕ → Bool
trial p zero low = not (eqb (p % low) 0)
trial p (suc k) low = trial p k low && trial p k (low + 2 ^ k)

pow-two_suc : (k : ℕ) → 2 ^ suc k ≡ 2 ^ k + 2 ^ k
pow-two_suc k = omega arith

one_test : (x : ℕ) → not (eqb x 0) ≡ true → x ≢ 0
one_test x h = grind (arith, nat_tests)

cofactor : (d e p : ℕ) → d * e ≡ p → 1 < d → d < p → 2 ≤ e
cofactor d zero p q dl du = absurd (omega arith)
cofactor d (suc zero) p q dl du = absurd (omega arith)
cofactor d (suc (suc e)) p q dl du = omega arith

trial-ok : (p k low : ℕ) → trial p k low ≡ true → (d : ℕ) → low ≤ d → d < low + 2 ^ k → p % d ≢ 0
unfolding trial
trial-ok p zero low h d le lt z = one_test (p % low) h (subst (λ x. p % x ≡ 0) (omega arith) z)
trial-ok p (suc k) low h d le lt z = go (split (trial p k low) (trial p k (low + 2 ^ k)) h) (trial-ok p k low) (trial-ok p k (low + 2 ^ k))
  where
    split : (a b : Bool) → a && b ≡ true → (a ≡ true) × (b ≡ true)
    split a b e = grind arith

    cases : (x y : ℕ) → (x < y) ⊎ (y ≤ x)
    cases x y = grind arith

    go : (trial p k low ≡ true) × (trial p k (low + 2 ^ k) ≡ true) →
        (trial p k low ≡ true → (c : ℕ) → low ≤ c → c < low + 2 ^ k → p % c ≢ 0) →
        (trial p k (low + 2 ^ k) ≡ true → (c : ℕ) → low + 2 ^ k ≤ c → c < low + 2 ^ k + 2 ^ k → p % c ≢ 0) → ⊥
    go both first second = elim (cases d (low + 2 ^ k))
        [ inl small ↦ first both.0 d le small z | inr large ↦ second both.1 d large (omega (arith, pow-two_suc k)) z ]

-- p is prime if none of the numbers from 2 to 2 ^ k + 1 divides it, and they pass its root
pub prime_by_trial : (p k : ℕ) → 1 < p → p < (2 + 2 ^ k) * (2 + 2 ^ k) → trial p k 2 ≡ true → IsPrime p
prime_by_trial p k above root h = record { above_one = above; no_divisor = none }
  where
    cases : (x y : ℕ) → (x < y) ⊎ (y ≤ x)
    cases x y = grind arith

    none : (d : ℕ) → 1 < d → d < p → p % d ≢ 0
    none d dl du z = elim (cases d (2 + 2 ^ k)) [
      | inl small ↦ trial-ok p k 2 h d (omega arith) small z
      | inr large ↦ other (p / d) (omega (arith, mod-add-div p d)) large
    ]
      where
        other : (e : ℕ) → d * e ≡ p → 2 + 2 ^ k ≤ d → ⊥
        other e q large = elim (cases e (2 + 2 ^ k)) [
          | inl small ↦ trial-ok p k 2 h e (cofactor d e p q dl du) small
              (ap (λ x. x % e) (sym q) ∙ mul-mod_left d e)
          | inr big ↦ omega (arith, mul-le-mul large big)
        ]

pub prime_65521 : IsPrime 65521
unfolding trial
prime_65521 = prime_by_trial 65521 8 (omega arith) (omega arith) refl

pub prime_2147483647 : IsPrime 2147483647
unfolding trial
prime_2147483647 = prime_by_trial 2147483647 16 (omega arith) (omega arith) refl
