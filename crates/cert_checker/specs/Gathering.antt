-- What is gathered in a row of n numbers, modulo p.
use Rattle.std.specs.Prelude.{ℕ, ◌+◌, ◌*◌, ◌%◌, ◌<◌, ◌≡◌, List, slice_index}
use Rattle.residue_theory.specs.Sums.{sum_below}
use Rattle.cert_text.specs.Readings.{entry_at, matrix_of}

-- now is the row with factor times the entries added
abbrev pub IsAddedRow : ℕ → ℕ → ℕ → List (ℕ × ℕ) → List ℕ → List ℕ → Type 0
IsAddedRow p n factor entries row now = (j : ℕ) → j < n →
    slice_index now j % p ≡ (slice_index row j + factor * entry_at entries j) % p

-- now is the row with the sum of the k rows of a matrix added, each times its coefficient
abbrev pub IsGatheredRow : ℕ → ℕ → ℕ → List (ℕ × ℕ) → List (List (ℕ × ℕ)) → List ℕ → List ℕ → Type 0
IsGatheredRow p k n coefficients matrix row now = (j : ℕ) → j < n → slice_index now j % p
    ≡ (slice_index row j + sum_below k (λ t. entry_at coefficients t * matrix_of matrix t j)) % p

-- each number is 0
abbrev pub IsZeroRow : ℕ → ℕ → List ℕ → Type 0
IsZeroRow p n row = (j : ℕ) → j < n → slice_index row j % p ≡ 0

-- the entries are those of the sum of the k rows of a matrix, each times its coefficient
abbrev pub IsRowCombination : ℕ → ℕ → ℕ → List (ℕ × ℕ) → List (List (ℕ × ℕ)) → List (ℕ × ℕ) → Type 0
IsRowCombination p k n coefficients matrix entries = (j : ℕ) → j < n → entry_at entries j % p
    ≡ sum_below k (λ t. entry_at coefficients t * matrix_of matrix t j) % p
