-- Surplus equations and undetermined unknowns, read from the canonical parts of a layered matrix of the model and from
-- the tableau beside them.
use Rattle.std.specs.Prelude.{ℕ, ◌+◌, ◌<◌, ◌≡◌, ◌≢◌, ◌%◌, ◌↔◌, Bool, false}
use Rattle.residue_theory.specs.Residues.{IsPrime}
use Rattle.mixed_matrices.specs.CanonicalParts.{AreCanonical}
use Rattle.mixed_matrices.specs.CheckerRules.{KeepsPartRules}
use Rattle.mixed_matrices.specs.Forms.{Parts}
use Rattle.mixed_matrices.specs.LayeredMatrices.{LayeredMatrix}
use Rattle.mixed_matrices.specs.Layerings.{IsLayering, Origins}
use Rattle.mixed_matrices.specs.Models.{MixedMatrix}
use Rattle.mixed_matrices.specs.Removals.{IsSurplus, IsUndetermined}
use Rattle.mixed_matrices.specs.Tableaus.{IsTableau, Tableau}

-- an unknown is undetermined exactly where its column is in the first tail
abbrev pub UndeterminedUnknownsAreInTheFirstTail : Type 0
UndeterminedUnknownsAreInTheFirstTail =
    (p : ℕ) → IsPrime p → 2 < p → (M : MixedMatrix) (A D : ℕ → Bool) (L : LayeredMatrix) (O : Origins) →
    IsLayering M A D L O →
    (G : Parts) → AreCanonical p L G →
    (j : ℕ) → j < M.columns → IsUndetermined p M j ↔ (G.column j ≡ 0)

-- an equation with a T row, split or not, is surplus exactly where that row is in the last tail
abbrev pub SurplusRowsOfSymbolsAreInTheLastTail : Type 0
SurplusRowsOfSymbolsAreInTheLastTail =
    (p : ℕ) → IsPrime p → 2 < p → (M : MixedMatrix) (A D : ℕ → Bool) (L : LayeredMatrix) (O : Origins) →
    IsLayering M A D L O →
    (S U : ℕ → ℕ → ℕ) (F : Tableau) → IsTableau p L S U F →
    (G : Parts) (below lower : ℕ → ℕ → Bool) → KeepsPartRules p L F G below lower →
    (d : ℕ) → d < L.t_rows → IsSurplus p M (O.of_t d) ↔ (G.t_row d ≡ G.blocks + 1)

-- an equation without a T row is surplus exactly where some row of S * Q in the last tail is made with its Q row:
-- S has an entry there that is not zero
abbrev pub SurplusRowsOfConstantsAreUsedInTheLastTail : Type 0
SurplusRowsOfConstantsAreUsedInTheLastTail =
    (p : ℕ) → IsPrime p → 2 < p → (M : MixedMatrix) (A D : ℕ → Bool) (L : LayeredMatrix) (O : Origins) →
    IsLayering M A D L O →
    (S U : ℕ → ℕ → ℕ) (F : Tableau) → IsTableau p L S U F →
    (G : Parts) (below lower : ℕ → ℕ → Bool) → KeepsPartRules p L F G below lower →
    (e : ℕ) → e < L.q_rows → D (O.of_q e) ≡ false →
    IsSurplus p M (O.of_q e) ↔ ((k : ℕ) × (k < L.q_rows) × (G.q_row k ≡ G.blocks + 1) × (S k e % p ≢ 0))
