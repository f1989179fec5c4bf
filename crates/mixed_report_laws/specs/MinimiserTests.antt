-- Surplus equations and undetermined unknowns, told by the minimisers of a layered matrix of the model.
use Rattle.std.specs.Prelude.{ℕ, ◌-◌, ◌<◌, ◌≡◌, ◌↔◌, Bool, true, false}
use Rattle.residue_theory.specs.Residues.{IsPrime}
use Rattle.linear_algebra.specs.Columns.{IsRank}
use Rattle.linear_algebra.specs.Parts.{without_row}
use Rattle.mixed_matrices.specs.LayeredMatrices.{LayeredMatrix}
use Rattle.mixed_matrices.specs.Layerings.{IsLayering, Origins}
use Rattle.mixed_matrices.specs.Models.{MixedMatrix}
use Rattle.mixed_matrices.specs.Removals.{IsSurplus, IsUndetermined}
use Rattle.mixed_matrices.specs.SetFunctions.{IsMinimiser, IsRho, touches_set}

-- an unknown is undetermined exactly where each minimiser holds its column
abbrev pub MinimisersTellUndeterminedUnknowns : Type 0
MinimisersTellUndeterminedUnknowns =
    (p : ℕ) → IsPrime p → 2 < p → (M : MixedMatrix) (A D : ℕ → Bool) (L : LayeredMatrix) (O : Origins) →
    IsLayering M A D L O →
    (j : ℕ) → j < M.columns → IsUndetermined p M j ↔ ((X : ℕ → Bool) → IsMinimiser p L X → X j ≡ true)

-- an equation with a T row, split or not, is surplus exactly where no minimiser has a symbol in that row
abbrev pub MinimisersTellSurplusRowsOfSymbols : Type 0
MinimisersTellSurplusRowsOfSymbols =
    (p : ℕ) → IsPrime p → 2 < p → (M : MixedMatrix) (A D : ℕ → Bool) (L : LayeredMatrix) (O : Origins) →
    IsLayering M A D L O →
    (d : ℕ) → d < L.t_rows → IsSurplus p M (O.of_t d) ↔ ((X : ℕ → Bool) → IsMinimiser p L X → touches_set L X d ≡ false)

-- an equation without a T row is surplus exactly where rho of each minimiser is the same without its Q row
abbrev pub MinimisersTellSurplusRowsOfConstants : Type 0
MinimisersTellSurplusRowsOfConstants =
    (p : ℕ) → IsPrime p → 2 < p → (M : MixedMatrix) (A D : ℕ → Bool) (L : LayeredMatrix) (O : Origins) →
    IsLayering M A D L O →
    (e : ℕ) → e < L.q_rows → D (O.of_q e) ≡ false →
    IsSurplus p M (O.of_q e) ↔
    ((X : ℕ → Bool) → IsMinimiser p L X → (u v : ℕ) → IsRho p L X u →
    IsRank p (without_row e L.q) (L.q_rows - 1) L.columns X v → v ≡ u)
