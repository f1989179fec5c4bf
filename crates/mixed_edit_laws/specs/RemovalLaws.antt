-- Laws of edits of a layered matrix.
use Rattle.std.specs.Prelude.{ℕ, ◌+◌, ◌*◌, ◌%◌, ◌<◌, ◌≤◌, ◌≡◌, Bool, true, false}
use Rattle.residue_theory.specs.Residues.{IsPrime}
use Rattle.mixed_matrices.specs.LayeredMatrices.{LayeredMatrix}
use Rattle.mixed_matrices.specs.StructuralRanks.{IsLayeredRank}
use Rattle.mixed_edit_laws.specs.Removed.{IsEmptyColumnOut, IsQRowBeside, IsQRowOut, IsTRowBeside, IsTRowOut}
use Rattle.mixed_matrices.specs.Arcs.{IsClosedIn}
use Rattle.mixed_matrices.specs.Tableaus.{HasTableau, Tableau}

-- without a Q row R(L) is the same, or one less
abbrev pub QRowsOutTakeAtMostOne : Type 0
QRowsOutTakeAtMostOne =
    (p : ℕ) → IsPrime p → (L K : LayeredMatrix) (e r s : ℕ) → IsQRowOut p L K e →
    IsLayeredRank p L r → IsLayeredRank p K s → (s ≤ r) × (r ≤ s + 1)

-- without a T row R(L) is the same, or one less
abbrev pub TRowsOutTakeAtMostOne : Type 0
TRowsOutTakeAtMostOne =
    (p : ℕ) → IsPrime p → (L K : LayeredMatrix) (e r s : ℕ) → IsTRowOut p L K e →
    IsLayeredRank p L r → IsLayeredRank p K s → (s ≤ r) × (r ≤ s + 1)

-- without an empty column R(L) is the same
abbrev pub EmptyColumnsOutTakeNothing : Type 0
EmptyColumnsOutTakeNothing =
    (p : ℕ) → IsPrime p → (L K : LayeredMatrix) (v r s : ℕ) → IsEmptyColumnOut p L K v →
    IsLayeredRank p L r → IsLayeredRank p K s → s ≡ r

-- an edit leaves a pair of s columns, over n columns, of which the best have m, at most 4 more: the steps of a run from
-- it are at most 14 n, and its searches, m - s and one, at most 5
abbrev pub EditsTakeFewSteps : Type 0
EditsTakeFewSteps =
    (n s m before after searches : ℕ) → s ≤ m → m ≤ s + 4 → m ≤ n →
    after + (s * n + s * s) ≤ before + (m + 1) * n + m * m → searches + s ≡ m + 1 →
    (after ≤ before + 14 * n) × (searches ≤ 5)

-- a Q row that is zero in P on a closed set leaves it closed: the pair stays best, and no search is needed
abbrev pub QRowsBesideKeepClosedSets : Type 0
QRowsBesideKeepClosedSets =
    (p : ℕ) (L K : LayeredMatrix) (F G : Tableau) (k : ℕ) (X : ℕ → Bool) → HasTableau p L F → IsQRowBeside p L K F G k →
    ((j : ℕ) → j < L.columns → X j ≡ true → G.P k j % p ≡ 0) → IsClosedIn p L F X → IsClosedIn p K G X

-- and so does a T row that has no symbol in it
abbrev pub TRowsBesideKeepClosedSets : Type 0
TRowsBesideKeepClosedSets =
    (p : ℕ) (L K : LayeredMatrix) (F G : Tableau) (e : ℕ) (X : ℕ → Bool) → HasTableau p L F → IsTRowBeside p L K F G e →
    ((j : ℕ) → j < L.columns → X j ≡ true → K.t e j ≡ false) → IsClosedIn p L F X → IsClosedIn p K G X
