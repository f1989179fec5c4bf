-- Small matrices at which the definitions are proved, modulo 65,521.
use Rattle.std.specs.Prelude.{ℕ, zero, suc, ◌+◌, cond, ltb}

-- rows 1 1 and 1 1
abbrev pub all_ones : ℕ → ℕ → ℕ
all_ones i j = 1

-- rows 1 1 and 0 0
abbrev pub one_row : ℕ → ℕ → ℕ
one_row i j = cond (ltb i 1) 1 0

-- rows 1 1 and 0 1
abbrev pub triangle : ℕ → ℕ → ℕ
triangle i j = cond (ltb j i) 0 1

-- rows 0 1 and 1 2
abbrev pub stairs : ℕ → ℕ → ℕ
stairs i j = i + j

-- rows -2 1 and 1 0
abbrev pub stairs_inverse : ℕ → ℕ → ℕ
stairs_inverse zero zero = 65519
stairs_inverse (suc i) (suc j) = 0
stairs_inverse zero (suc j) = 1
stairs_inverse (suc i) zero = 1

-- 0 everywhere
abbrev pub all_zero : ℕ → ℕ → ℕ
all_zero i j = 0
