-- Laws of edits of a model, for its layered matrix.
use Rattle.std.specs.Prelude.{ℕ, ◌+◌, ◌≤◌, ◌≡◌}
use Rattle.residue_theory.specs.Residues.{IsPrime}
use Rattle.mixed_matrices.specs.LayeredMatrices.{LayeredMatrix}
use Rattle.mixed_matrices.specs.Layerings.{IsLayeredMatrixOf, Origins}
use Rattle.mixed_matrices.specs.Models.{MixedMatrix}
use Rattle.mixed_matrices.specs.StructuralRanks.{IsLayeredRank}
use Rattle.mixed_edit_laws.specs.Changes.{IsAdded, IsChanged, IsRemoved, IsWider, IsWiderLayers}

-- new unknowns without entries change no rank
abbrev pub WiderModelsHaveTheRank : Type 0
WiderModelsHaveTheRank =
    (p : ℕ) → IsPrime p → (K M : MixedMatrix) (B L : LayeredMatrix) (P O : Origins) (r s : ℕ) → IsWider K M →
    IsLayeredMatrixOf K B P → IsLayeredMatrixOf M L O → IsLayeredRank p B r → IsLayeredRank p L s → s ≡ r

-- an added equation raises the rank of the layered matrix by at most 2
abbrev pub AddedEquationsRaiseByAtMostTwo : Type 0
AddedEquationsRaiseByAtMostTwo =
    (p : ℕ) → IsPrime p → (M N : MixedMatrix) (L K : LayeredMatrix) (O P : Origins) (r s : ℕ) → IsAdded M N →
    IsLayeredMatrixOf M L O → IsLayeredMatrixOf N K P → IsLayeredRank p L r → IsLayeredRank p K s → s ≤ r + 2

-- a removed one by none
abbrev pub RemovedEquationsRaiseNothing : Type 0
RemovedEquationsRaiseNothing =
    (p : ℕ) → IsPrime p → (M N : MixedMatrix) (e : ℕ) (L K : LayeredMatrix) (O P : Origins) (r s : ℕ) →
    IsRemoved M N e →
    IsLayeredMatrixOf M L O → IsLayeredMatrixOf N K P → IsLayeredRank p L r → IsLayeredRank p K s → s ≤ r

-- and a changed one by at most 2
abbrev pub ChangedEquationsRaiseByAtMostTwo : Type 0
ChangedEquationsRaiseByAtMostTwo =
    (p : ℕ) → IsPrime p → (M N : MixedMatrix) (e : ℕ) (L K : LayeredMatrix) (O P : Origins) (r s : ℕ) →
    IsChanged M N e →
    IsLayeredMatrixOf M L O → IsLayeredMatrixOf N K P → IsLayeredRank p L r → IsLayeredRank p K s → s ≤ r + 2

-- new unknowns without entries are empty columns, between the unknowns and the auxiliary columns
abbrev pub WiderModelsHaveWiderLayers : Type 0
WiderModelsHaveWiderLayers =
    (K M : MixedMatrix) (B L : LayeredMatrix) (P O : Origins) → IsWider K M → IsLayeredMatrixOf K B P →
    IsLayeredMatrixOf M L O →
    IsWiderLayers B L K.columns M.columns
