-- Systems of linear equations modulo p: a matrix, numbers for its columns, and a right side.
use Rattle.std.specs.Prelude.{ℕ, ◌-◌, ◌*◌, ◌%◌, ◌<◌, ◌≡◌, Bool, true, cond, ltb}
use Rattle.residue_theory.specs.Sums.{sum_on, sum_below}

-- a * x is b, at the m rows of a
abbrev pub IsSystemSolution : ℕ → (ℕ → ℕ → ℕ) → ℕ → ℕ → (ℕ → ℕ) → (ℕ → ℕ) → Type 0
IsSystemSolution p a m n x b = (i : ℕ) → i < m → sum_below n (λ j. x j * a i j) % p ≡ b i % p

-- at the rows of R, the columns of X alone, times x, are b
abbrev pub IsSystemSolutionOn : ℕ → (ℕ → ℕ → ℕ) → ℕ → ℕ → (ℕ → Bool) → (ℕ → Bool) → (ℕ → ℕ) → (ℕ → ℕ) → Type 0
IsSystemSolutionOn p a m n R X x b = (i : ℕ) → i < m → R i ≡ true → sum_on X n (λ j. x j * a i j) % p ≡ b i % p

-- the m numbers of b, and below them those of d
abbrev pub stacked : ℕ → (ℕ → ℕ) → (ℕ → ℕ) → ℕ → ℕ
stacked m b d i = cond (ltb i m) (b i) (d (i - m))
