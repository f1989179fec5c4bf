-- Laws of layering: the layered matrix of a model has its structural rank, and one more for each split equation.
use Rattle.std.specs.Prelude.{ℕ, ◌+◌, ◌-◌, ◌<◌, ◌≤◌, ◌↔◌, Bool}
use Rattle.residue_theory.specs.Residues.{IsPrime}
use Rattle.residue_theory.specs.Sets.{everything}
use Rattle.linear_algebra.specs.Columns.{IsRank}
use Rattle.linear_algebra.specs.Parts.{with_entry}
use Rattle.mixed_matrices.specs.LayeredMatrices.{LayeredMatrix, layered_value}
use Rattle.mixed_matrices.specs.Layerings.{IsLayeredMatrixOf, IsLayering, Origins}
use Rattle.mixed_matrices.specs.Models.{MixedMatrix, value}
use Rattle.mixed_matrices.specs.StructuralRanks.{IsLayeredRank, IsStructuralRank}
use Rattle.mixed_layering_laws.specs.LayeredValues.{AreFreeOfZeros, AreScaledValues, AreValuesFor, IsOneOrTwo}

-- with -1 at the auxiliary places the rank is that of the model's value, and one more for each split row
abbrev pub MinusOnesAddTheSplitRows : Type 0
MinusOnesAddTheSplitRows =
    (p : ℕ) → IsPrime p → (M : MixedMatrix) (A D : ℕ → Bool) (L : LayeredMatrix) (O : Origins) → IsLayering M A D L O →
    (v w : ℕ → ℕ → ℕ) → AreValuesFor p M L O v w → (r : ℕ) →
    IsRank p (value M v) M.rows M.columns everything r ↔
    IsRank p (layered_value L w) (L.q_rows + L.t_rows) L.columns everything (r + O.split)

-- T rows multiplied by numbers that are not zero keep the rank of every column set
abbrev pub ScaledRowsOfSymbolsKeepTheRank : Type 0
ScaledRowsOfSymbolsKeepTheRank =
    (p : ℕ) → IsPrime p → (L : LayeredMatrix) (f : ℕ → ℕ) (w u : ℕ → ℕ → ℕ) → AreScaledValues p L f w u →
    (X : ℕ → Bool) (r : ℕ) →
    IsRank p (layered_value L w) (L.q_rows + L.t_rows) L.columns X r ↔
    IsRank p (layered_value L u) (L.q_rows + L.t_rows) L.columns X r

-- so where the auxiliary values are not zero, scaled rows make them -1, and the values stand for some of the model
abbrev pub AuxiliaryValuesMayBeMinusOne : Type 0
AuxiliaryValuesMayBeMinusOne =
    (p : ℕ) → IsPrime p → (M : MixedMatrix) (A D : ℕ → Bool) (L : LayeredMatrix) (O : Origins) → IsLayering M A D L O →
    (w : ℕ → ℕ → ℕ) → AreFreeOfZeros p M L O w →
    (f : ℕ → ℕ) × (u v : ℕ → ℕ → ℕ) × AreScaledValues p L f w u × AreValuesFor p M L O v u

-- whatever number one symbol has, with 1 or with 2 in its place the rank is no smaller
abbrev pub OneSymbolMayBeOneOrTwo : Type 0
OneSymbolMayBeOneOrTwo =
    (p : ℕ) → IsPrime p → (M : MixedMatrix) (v : ℕ → ℕ → ℕ) (i j : ℕ) → i < M.rows →
    (r : ℕ) → IsRank p (value M v) M.rows M.columns everything r →
    (x s : ℕ) × IsOneOrTwo x × IsRank p (value M (with_entry v i j x)) M.rows M.columns everything s × (r ≤ s)

-- so 1 and 2 alone reach the structural rank: of models, and of layered matrices
abbrev pub OnesAndTwosReachTheRank : Type 0
OnesAndTwosReachTheRank =
    (p : ℕ) → IsPrime p → (M : MixedMatrix) (r : ℕ) → IsStructuralRank p M r →
    (v : ℕ → ℕ → ℕ) × IsRank p (value M v) M.rows M.columns everything r ×
    ((i j : ℕ) → i < M.rows → j < M.columns → IsOneOrTwo (v i j))

abbrev pub OnesAndTwosReachTheLayeredRank : Type 0
OnesAndTwosReachTheLayeredRank =
    (p : ℕ) → IsPrime p → (L : LayeredMatrix) (r : ℕ) → IsLayeredRank p L r →
    (w : ℕ → ℕ → ℕ) × IsRank p (layered_value L w) (L.q_rows + L.t_rows) L.columns everything r ×
    ((i j : ℕ) → i < L.t_rows → j < L.columns → IsOneOrTwo (w i j))

-- R(L) = R(M) + s, for a prime above 2: also where rows are split that need not be
abbrev pub LayeringsAddTheSplitRows : Type 0
LayeringsAddTheSplitRows =
    (p : ℕ) → IsPrime p → 2 < p → (M : MixedMatrix) (A D : ℕ → Bool) (L : LayeredMatrix) (O : Origins) →
    IsLayering M A D L O →
    (r : ℕ) → IsStructuralRank p M r ↔ IsLayeredRank p L (r + O.split)

-- so the rank of a model is that of its layered matrix, less the number of split rows
abbrev pub LayeredMatricesShowTheRank : Type 0
LayeredMatricesShowTheRank =
    (p : ℕ) → IsPrime p → 2 < p → (M : MixedMatrix) (L : LayeredMatrix) (O : Origins) → IsLayeredMatrixOf M L O →
    (t : ℕ) → IsLayeredRank p L t → IsStructuralRank p M (t - O.split) × (O.split ≤ t)

-- each model has a layered matrix
abbrev pub EachModelHasALayeredMatrix : Type 0
EachModelHasALayeredMatrix = (M : MixedMatrix) → (L : LayeredMatrix) × (O : Origins) × IsLayeredMatrixOf M L O
