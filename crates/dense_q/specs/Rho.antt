-- The rank function of a matrix.
use Rattle.std.specs.Prelude.{ℕ, Bool}
use Rattle.linear_algebra.specs.Columns.{IsRank}
use Rattle.dense_q.specs.Tables.{Table, height, entry}

-- the columns of X have the rank r modulo p
abbrev pub Rho : ℕ → Table → (ℕ → Bool) → ℕ → Type 0
Rho p m X r = IsRank p (entry m) (height m) m.width X r
