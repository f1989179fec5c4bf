-- Products of matrices, and what makes a matrix invertible.
use Rattle.std.specs.Prelude.{ℕ, ◌*◌, ◌%◌, ◌<◌, ◌≡◌, cond, eqb}
use Rattle.residue_theory.specs.Sums.{sum_below}

-- the entry of S * a, where k is the number of columns of S and of rows of a
abbrev pub product : ℕ → (ℕ → ℕ → ℕ) → (ℕ → ℕ → ℕ) → ℕ → ℕ → ℕ
product k S a i j = sum_below k (λ t. S i t * a t j)

-- the entry of the identity matrix
abbrev pub identity : ℕ → ℕ → ℕ
identity i j = cond (eqb i j) 1 0

-- the m by n entries are the same, modulo p
abbrev pub Agree : ℕ → ℕ → ℕ → (ℕ → ℕ → ℕ) → (ℕ → ℕ → ℕ) → Type 0
Agree p m n a b = (i j : ℕ) → i < m → j < n → a i j % p ≡ b i j % p

-- S * U is the identity matrix, modulo p; both are m by m
abbrev pub IsInverse : ℕ → ℕ → (ℕ → ℕ → ℕ) → (ℕ → ℕ → ℕ) → Type 0
IsInverse p m S U = Agree p m m (product m S U) identity

-- a with rows and columns exchanged
abbrev pub transposed : (ℕ → ℕ → ℕ) → ℕ → ℕ → ℕ
transposed a i j = a j i
