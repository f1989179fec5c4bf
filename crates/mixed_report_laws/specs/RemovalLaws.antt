-- What the model's structural rank is without an equation or an unknown, in terms of a layered matrix of the model:
-- what is left out of the model is emptied in the layered matrix, whose auxiliary columns all stay.
use Rattle.std.specs.Prelude.{ℕ, ◌+◌, ◌<◌, ◌≡◌, ◌⊎◌, ◌↔◌, Bool, false}
use Rattle.residue_theory.specs.Residues.{IsPrime}
use Rattle.residue_theory.specs.Sets.{everything, without}
use Rattle.mixed_matrices.specs.LayeredMatrices.{LayeredMatrix, layered_part}
use Rattle.mixed_matrices.specs.Layerings.{IsLayeredMatrixOf, IsLayering, Origins, has_symbol}
use Rattle.mixed_matrices.specs.Models.{MixedMatrix}
use Rattle.mixed_matrices.specs.Removals.{without_equation, without_unknown}
use Rattle.mixed_matrices.specs.StructuralRanks.{IsLayeredRank, IsStructuralRank}

-- without an unknown: its column goes
abbrev pub RemovedUnknownsAreEmptiedColumns : Type 0
RemovedUnknownsAreEmptiedColumns =
    (p : ℕ) → IsPrime p → 2 < p → (M : MixedMatrix) (A D : ℕ → Bool) (L : LayeredMatrix) (O : Origins) →
    IsLayering M A D L O →
    (j : ℕ) → j < M.columns → (r : ℕ) →
    IsStructuralRank p (without_unknown j M) r ↔
    IsLayeredRank p (layered_part everything everything (without everything j) L) (r + O.split)

-- without an equation with symbols: its T row goes; where it is split, its Q row may stay, since the auxiliary column
-- is then the unit column of that row
abbrev pub RemovedEquationsAreEmptiedRowsOfSymbols : Type 0
RemovedEquationsAreEmptiedRowsOfSymbols =
    (p : ℕ) → IsPrime p → 2 < p → (M : MixedMatrix) (A D : ℕ → Bool) (L : LayeredMatrix) (O : Origins) →
    IsLayering M A D L O →
    (d : ℕ) → d < L.t_rows → (r : ℕ) →
    IsStructuralRank p (without_equation (O.of_t d) M) r ↔
    IsLayeredRank p (layered_part everything (without everything d) everything L) (r + O.split)

-- without an equation that has no T row: its Q row goes
abbrev pub RemovedEquationsAreEmptiedRowsOfConstants : Type 0
RemovedEquationsAreEmptiedRowsOfConstants =
    (p : ℕ) → IsPrime p → 2 < p → (M : MixedMatrix) (A D : ℕ → Bool) (L : LayeredMatrix) (O : Origins) →
    IsLayering M A D L O →
    (e : ℕ) → e < L.q_rows → D (O.of_q e) ≡ false → (r : ℕ) →
    IsStructuralRank p (without_equation (O.of_q e) M) r ↔
    IsLayeredRank p (layered_part (without everything e) everything everything L) (r + O.split)

-- in the layered matrix of a model each equation is one of these: it has a T row, or no symbol and a Q row
abbrev pub EachEquationHasARow : Type 0
EachEquationHasARow =
    (M : MixedMatrix) (L : LayeredMatrix) (O : Origins) → IsLayeredMatrixOf M L O → (i : ℕ) → i < M.rows →
    ((d : ℕ) × (d < L.t_rows) × (O.of_t d ≡ i))
    ⊎ ((e : ℕ) × (e < L.q_rows) × (O.of_q e ≡ i) × (has_symbol M i ≡ false))
