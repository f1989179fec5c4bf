-- The set function p(X) = rho(X) + gamma(X) - |X| of a layered matrix, and the column sets where it is least (Murota,
-- chapter 4).
use Rattle.std.specs.Prelude.{ℕ, ◌+◌, ◌≤◌, Bool}
use Rattle.residue_theory.specs.Sets.{both, some_below}
use Rattle.residue_theory.specs.Sums.{size_on}
use Rattle.linear_algebra.specs.Columns.{IsRank}
use Rattle.mixed_matrices.specs.LayeredMatrices.{LayeredMatrix}

-- r is rho(X), the rank of Q on the columns X
abbrev pub IsRho : ℕ → LayeredMatrix → (ℕ → Bool) → ℕ → Type 0
IsRho p L X r = IsRank p L.q L.q_rows L.columns X r

-- T row i has a symbol in X
abbrev pub touches_set : LayeredMatrix → (ℕ → Bool) → ℕ → Bool
touches_set L X i = some_below L.columns (both X (L.t i))

-- the number of T rows with a symbol in X
abbrev pub gamma : LayeredMatrix → (ℕ → Bool) → ℕ
gamma L X = size_on (touches_set L X) L.t_rows

-- p(X) is at most p(Y), as sums: rho(X) + gamma(X) + |Y| is at most rho(Y) + gamma(Y) + |X|
abbrev pub IsNoGreater : ℕ → LayeredMatrix → (ℕ → Bool) → (ℕ → Bool) → Type 0
IsNoGreater p L X Y = (r s : ℕ) → IsRho p L X r → IsRho p L Y s →
    r + gamma L X + size_on Y L.columns ≤ s + gamma L Y + size_on X L.columns

-- no column set has a smaller p than X
abbrev pub IsMinimiser : ℕ → LayeredMatrix → (ℕ → Bool) → Type 0
IsMinimiser p L X = (Y : ℕ → Bool) → IsNoGreater p L X Y
