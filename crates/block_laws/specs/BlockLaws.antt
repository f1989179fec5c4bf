-- Laws of numbers in blocks: the blocks tell whether the model's matrix is regular, and solving them solves it.
use Rattle.std.specs.Prelude.{ℕ, ◌+◌, ◌<◌, ◌≡◌, ◌↔◌, Bool}
use Rattle.residue_theory.specs.Residues.{IsPrime}
use Rattle.residue_theory.specs.Sets.{everything}
use Rattle.linear_algebra.specs.Columns.{IsRank}
use Rattle.linear_algebra.specs.Products.{IsInverse}
use Rattle.mixed_matrices.specs.Forms.{Parts, part_columns}
use Rattle.mixed_matrices.specs.LayeredMatrices.{LayeredMatrix, layered_value}
use Rattle.mixed_matrices.specs.Layerings.{IsLayeredMatrixOf, IsLayering, Origins, gives_q}
use Rattle.mixed_matrices.specs.Models.{MixedMatrix, value}
use Rattle.mixed_layering_laws.specs.LayeredValues.{AreValuesFor}
use Rattle.block_laws.specs.Systems.{IsSystemSolution}
use Rattle.block_laws.specs.NumbersInBlocks.{HoldsEntries, IsBlockRank, IsBlockSolved, IsRegularBlock, IsSquareForm}
use Rattle.block_laws.specs.NumbersInBlocks.{block_matrix, block_right, layered_right}

-- M(v) has independent columns, as a regular matrix has, exactly where each block has the rank of its size
abbrev pub BlocksTellWhetherTheModelIsRegular : Type 0
BlocksTellWhetherTheModelIsRegular =
    (p : ℕ) → IsPrime p → (M : MixedMatrix) (A D : ℕ → Bool) (L : LayeredMatrix) (O : Origins) → IsLayering M A D L O →
    (v w : ℕ → ℕ → ℕ) → AreValuesFor p M L O v w → (S : ℕ → ℕ → ℕ) (G : Parts) → IsSquareForm p L S G →
    IsRank p (value M v) M.rows M.columns everything M.columns ↔ ((k : ℕ) → k < G.blocks → IsRegularBlock p S L G w k)

-- so a block whose rank is below its size makes M(v) singular
abbrev pub SingularBlocksMakeTheModelSingular : Type 0
SingularBlocksMakeTheModelSingular =
    (p : ℕ) → IsPrime p → (M : MixedMatrix) (A D : ℕ → Bool) (L : LayeredMatrix) (O : Origins) → IsLayering M A D L O →
    (v w : ℕ → ℕ → ℕ) → AreValuesFor p M L O v w → (S : ℕ → ℕ → ℕ) (G : Parts) → IsSquareForm p L S G →
    (k r s : ℕ) → k < G.blocks → IsBlockRank p S L G w k r → r < part_columns L G (k + 1) →
    IsRank p (value M v) M.rows M.columns everything s → s < M.columns

-- x solves the model exactly where x, with some numbers for the auxiliary columns, solves the layered matrix
abbrev pub LayersHaveTheSolutions : Type 0
LayersHaveTheSolutions =
    (p : ℕ) → IsPrime p → (M : MixedMatrix) (L : LayeredMatrix) (O : Origins) → IsLayeredMatrixOf M L O →
    (v w : ℕ → ℕ → ℕ) → AreValuesFor p M L O v w → (x b : ℕ → ℕ) →
    IsSystemSolution p (value M v) M.rows M.columns x b ↔
    ((y : ℕ → ℕ) × ((j : ℕ) → j < M.columns → y j ≡ x j) ×
    IsSystemSolution p (layered_value L w) (L.q_rows + L.t_rows) L.columns y (layered_right (gives_q M) L O b))

-- S keeps the solutions, with S times the right side of Q
abbrev pub TransformsKeepTheSolutions : Type 0
TransformsKeepTheSolutions =
    (p : ℕ) → IsPrime p → (L : LayeredMatrix) (S U : ℕ → ℕ → ℕ) → IsInverse p L.q_rows S U → (w : ℕ → ℕ → ℕ) →
    (A : ℕ → Bool) (O : Origins) (x b : ℕ → ℕ) →
    IsSystemSolution p (layered_value L w) (L.q_rows + L.t_rows) L.columns x (layered_right A L O b) ↔
    IsSystemSolution p (block_matrix S L w) (L.q_rows + L.t_rows) L.columns x (block_right S A L O b)

-- where each block is solved, on columns that hold all its entries, the model is
abbrev pub SolvedBlocksSolveTheModel : Type 0
SolvedBlocksSolveTheModel =
    (p : ℕ) → IsPrime p → (M : MixedMatrix) (L : LayeredMatrix) (O : Origins) → IsLayeredMatrixOf M L O →
    (v w : ℕ → ℕ → ℕ) → AreValuesFor p M L O v w → (S : ℕ → ℕ → ℕ) (G : Parts) → IsSquareForm p L S G →
    (X : ℕ → ℕ → Bool) (x b : ℕ → ℕ) → ((k : ℕ) → k < G.blocks → HoldsEntries p S L G w k (X k)) →
    ((k : ℕ) → k < G.blocks → IsBlockSolved p S (gives_q M) L O G w k (X k) x b) →
    IsSystemSolution p (value M v) M.rows M.columns x b
