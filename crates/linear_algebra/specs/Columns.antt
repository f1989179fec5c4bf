-- Columns of a matrix modulo p. A matrix is a function from a row and a column to an entry,
-- beside its numbers m of rows and n of columns; a set of columns is a test.
use Rattle.std.specs.Prelude.{ℕ, ◌*◌, ◌%◌, ◌<◌, ◌≤◌, ◌≡◌, Bool, true}
use Rattle.residue_theory.specs.Sets.{IsWithin}
use Rattle.residue_theory.specs.Sums.{sum_on, size_on}

-- with the coefficients c, the columns of X combine to the zero column
abbrev pub CombinesToZero : ℕ → (ℕ → ℕ → ℕ) → ℕ → ℕ → (ℕ → Bool) → (ℕ → ℕ) → Type 0
CombinesToZero p a m n X c = (i : ℕ) → i < m → sum_on X n (λ j. c j * a i j) % p ≡ 0

-- the columns of X are independent: only zero coefficients combine them to the zero column
abbrev pub IsIndependent : ℕ → (ℕ → ℕ → ℕ) → ℕ → ℕ → (ℕ → Bool) → Type 0
IsIndependent p a m n X =
    (c : ℕ → ℕ) → CombinesToZero p a m n X c → (j : ℕ) → j < n → X j ≡ true → c j % p ≡ 0

-- r is the greatest size of an independent set of columns of X
pub record IsRank (p : ℕ) (a : ℕ → ℕ → ℕ) (m n : ℕ) (X : ℕ → Bool) (r : ℕ) : Type 0 where
  pub reached : (Y : ℕ → Bool) × IsWithin n Y X × IsIndependent p a m n Y × (size_on Y n ≡ r)
  pub greatest : (Y : ℕ → Bool) → IsWithin n Y X → IsIndependent p a m n Y → size_on Y n ≤ r

-- the column with the entries x is a combination of the columns of X
abbrev pub Combines : ℕ → (ℕ → ℕ → ℕ) → ℕ → ℕ → (ℕ → Bool) → (ℕ → ℕ) → Type 0
Combines p a m n X x =
    (c : ℕ → ℕ) × ((i : ℕ) → i < m → sum_on X n (λ j. c j * a i j) % p ≡ x i % p)

-- column v is a combination of the columns of X: it is in their span
abbrev pub IsCombination : ℕ → (ℕ → ℕ → ℕ) → ℕ → ℕ → (ℕ → Bool) → ℕ → Type 0
IsCombination p a m n X v = Combines p a m n X (λ i. a i v)
