-- Paths from the place (i, j) back to itself through other symbols, as a kept inverse G of M(w) leads.
use Rattle.std.specs.Prelude.{ℕ, zero, suc, ◌%◌, ◌≡◌, ◌≢◌, false}
use Rattle.mixed_matrices.specs.Models.{MixedMatrix}
use Rattle.value_list_laws.specs.FixedSymbols.{IsSymbolPlace, place}

-- from column b to row i through s symbols other than the one at (i, j): G leads from a column to the row of a symbol,
-- and on from its column
abbrev pub HasPath : ℕ → MixedMatrix → (ℕ → ℕ → ℕ) → ℕ → ℕ → ℕ → ℕ → Type 0
HasPath p M G i j zero b = G b i % p ≢ 0
HasPath p M G i j (suc s) b = (c d : ℕ) × IsSymbolPlace M c d × (place i j c d ≡ false)
    × (G b c % p ≢ 0) × HasPath p M G i j s d
