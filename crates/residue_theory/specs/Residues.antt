-- Residues modulo p: a residue is any number, read up to multiples of p.
-- So x is zero where `x % p ≡ 0`, and x and y are the same where `x % p ≡ y % p`.
use Rattle.std.specs.Prelude.{ℕ, ◌%◌, ◌<◌, ◌≢◌}

-- p has no divisor between one and itself
pub record IsPrime (p : ℕ) : Type 0 where
  pub above_one : 1 < p
  pub no_divisor : (d : ℕ) → 1 < d → d < p → p % d ≢ 0
