-- What solving a model with numbers for its symbols tells, block by block.
use Rattle.std.specs.Prelude.{ℕ, ◌+◌, ◌-◌, ◌<◌, ◌≤◌, ◌≡◌, ◌⊎◌, cond, ltb, List, length, map, slice_index}
use Rattle.residue_theory.specs.Sets.{everything}
use Rattle.linear_algebra.specs.Columns.{IsRank}
use Rattle.mixed_matrices.specs.Forms.{part_columns}
use Rattle.mixed_matrices.specs.Models.{MixedMatrix, value}
use Rattle.mixed_matrices.specs.StructuralRanks.{IsStructuralRank}
use Rattle.mixed_model.specs.Layers.{Layers, layered_matrix_of}
use Rattle.mixed_model.specs.Models.{MixedModel, mixed_matrix_of}
use Rattle.mixed_layering.specs.Layers.{AreLayersOf, origins_of}
use Rattle.block_laws.specs.NumbersInBlocks.{IsBlockRank, IsRegularBlock}
use Rattle.block_laws.specs.Systems.{IsSystemSolution}
use Rattle.cert_text.specs.Contents.{Contents}
use Rattle.cert_text.specs.Readings.{matrix_of, parts_of}
use Rattle.cert_text.specs.Right.{IsRightCcf}
use Rattle.block_solver.specs.declared.answer.Answer.{Answer}
use Rattle.block_solver.specs.declared.answer.Answer.TheVariants.{Open, Singular, Solution}

-- these are the layers of the model, and the form is right for it
pub record IsRightFormFor (p : ℕ) (model : MixedModel) (layers : Layers) (c : Contents) : Type 0 where
  pub are : AreLayersOf model layers
  pub right : IsRightCcf p (mixed_matrix_of model) (layered_matrix_of layers) (origins_of layers are.split) c

-- the numbers v of the model's symbols, at the T rows, and -1 at the auxiliary columns
abbrev pub numbers_in_blocks : ℕ → MixedMatrix → Layers → (ℕ → ℕ → ℕ) → ℕ → ℕ → ℕ
numbers_in_blocks p M layers v i j = cond (ltb j M.columns) (v (slice_index layers.t_origins i) j) (p - 1)

-- block k of the form, counted from 0, has the rank of its size with these numbers
abbrev pub IsRegularBlockOf : ℕ → MixedMatrix → Layers → Contents → (ℕ → ℕ → ℕ) → ℕ → Type 0
IsRegularBlockOf p M layers c v k = IsRegularBlock p (matrix_of c.s) (layered_matrix_of layers) (parts_of c)
    (numbers_in_blocks p M layers v) k

-- and a rank below its size
abbrev pub IsSingularBlockOf : ℕ → MixedMatrix → Layers → Contents → (ℕ → ℕ → ℕ) → ℕ → Type 0
IsSingularBlockOf p M layers c v k = (r : ℕ) × IsBlockRank p (matrix_of c.s) (layered_matrix_of layers) (parts_of c)
    (numbers_in_blocks p M layers v) k r × (r < part_columns (layered_matrix_of layers) (parts_of c) (k + 1))

-- R(M) is the number of equations and of unknowns
pub record HasFullRank (p : ℕ) (M : MixedMatrix) : Type 0 where
  pub square : M.rows ≡ M.columns
  pub rank : IsStructuralRank p M M.rows

-- block k, counted from 1, is singular and no block after it is, and M(v) is singular
pub record IsLastSingular (p : ℕ) (M : MixedMatrix) (layers : Layers) (c : Contents) (v : ℕ → ℕ → ℕ)
    (k : ℕ) : Type 0 where
  pub full : HasFullRank p M
  pub some : 1 ≤ k
  pub within : k ≤ length c.blocks
  pub block : IsSingularBlockOf p M layers c v (k - 1)
  pub later : (l : ℕ) → k ≤ l → l < length c.blocks → IsRegularBlockOf p M layers c v l
  pub model : (s : ℕ) → IsRank p (value M v) M.rows M.columns everything s → s < M.columns

-- M(v) is regular, and M(v) * x is b; x has a number for each unknown
pub record IsModelSolution (p : ℕ) (M : MixedMatrix) (v : ℕ → ℕ → ℕ) (b : ℕ → ℕ) (x : List ℕ) : Type 0 where
  pub full : HasFullRank p M
  pub count : length x ≡ M.columns
  pub regular : IsRank p (value M v) M.rows M.columns everything M.columns
  pub solves : IsSystemSolution p (value M v) M.rows M.columns (slice_index x) b

-- what solving M with the numbers v at its symbols and the right side b tells
abbrev pub IsSolvingOf : {T : Type 0} → (T → ℕ) → ℕ → MixedMatrix → Layers → Contents → (ℕ → ℕ → ℕ) → (ℕ → ℕ) →
    Answer T → Type 0
IsSolvingOf number p M layers c v b Open = (r : ℕ) → IsStructuralRank p M r → (r < M.rows) ⊎ (r < M.columns)
IsSolvingOf number p M layers c v b (Singular k) = IsLastSingular p M layers c v k
IsSolvingOf number p M layers c v b (Solution x) = IsModelSolution p M v b (map number x)
