-- Sums over a set of numbers.
use Rattle.std.specs.Prelude.{ℕ, zero, suc, ◌+◌, Bool, cond}
use Rattle.residue_theory.specs.Sets.{everything}

-- the sum of f over the members of X below n
abbrev pub sum_on : (ℕ → Bool) → ℕ → (ℕ → ℕ) → ℕ
sum_on X zero f = 0
sum_on X (suc n) f = sum_on X n f + cond (X n) (f n) 0

-- how many members X has below n
abbrev pub size_on : (ℕ → Bool) → ℕ → ℕ
size_on X n = sum_on X n (λ _. 1)

-- the sum of f over all numbers below n
abbrev pub sum_below : ℕ → (ℕ → ℕ) → ℕ
sum_below n f = sum_on everything n f
