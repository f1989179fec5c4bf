-- Three places: 0 and 1 lead to each other, and 2 leads to 1. There are no starts and no ends.
use Rattle.std.specs.Prelude.{ℕ, Bool, ◌&&◌, ◌||◌, eqb, cond, ltb}

abbrev pub example_arc : ℕ → ℕ → Bool
example_arc x y = (eqb x 0 && eqb y 1) || ((eqb x 1 && eqb y 0) || (eqb x 2 && eqb y 1))

-- 0 and 1
abbrev pub example_pair : ℕ → Bool
example_pair x = ltb x 2

-- 0 and 1 are one block, and 2 is the next
abbrev pub example_block : ℕ → ℕ
example_block x = cond (eqb x 2) 1 0
