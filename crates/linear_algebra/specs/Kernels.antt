-- The kernel of a matrix: the coefficients that combine its columns to the zero column.
use Rattle.std.specs.Prelude.{ℕ, Bool}
use Rattle.linear_algebra.specs.Columns.{CombinesToZero}

-- the same coefficients combine the columns of a and of b to the zero column
pub record SameKernel (p m n : ℕ) (a b : ℕ → ℕ → ℕ) : Type 0 where
  pub forward : (X : ℕ → Bool) (c : ℕ → ℕ) → CombinesToZero p a m n X c → CombinesToZero p b m n X c
  pub back : (X : ℕ → Bool) (c : ℕ → ℕ) → CombinesToZero p b m n X c → CombinesToZero p a m n X c
