-- What solving a model with values for its symbols tells.
use Rattle.std.specs.Prelude.{ℕ, ◌-◌, ◌<◌, ◌≡◌, ◌⊎◌, Bool, true, false, List, map, slice_index, slice_index_or}
use Rattle.std.specs.List.{All}
use Rattle.mixed_matrices.specs.Models.{MixedMatrix}
use Rattle.mixed_matrices.specs.StructuralRanks.{IsStructuralRank}
use Rattle.mixed_model.specs.Layers.{Layers}
use Rattle.mixed_model.specs.Models.{MixedModel, mixed_matrix_of}
use Rattle.value_list_laws.specs.ListedValues.{values_of}
use Rattle.cert_text.specs.Contents.{Contents}
use Rattle.cert_text.specs.Ranges.{IsCcf}
use Rattle.cert_text.specs.declared.part.CcfBlock.{CcfBlock}
use Rattle.block_solver.specs.Solving.{IsLastSingular, IsModelSolution, IsRightFormFor}
use Rattle.study_answers.specs.declared.solving.Solving.{Solving}
use Rattle.study_answers.specs.declared.solving.Solving.TheVariants.{Open, Singular, Solution}

-- these are the columns of block k of the form, counted from 1
abbrev pub AreColumnsOfBlock : Contents → ℕ → List ℕ → Type 0
AreColumnsOfBlock c k columns = (d : CcfBlock) → columns ≡ (slice_index_or c.blocks (k - 1) d).part.columns

-- of a right form of the model, block k, counted from 1, has these columns and is the last that is singular with these
-- numbers at the symbols, so that the model is singular with them
pub record IsSingularAt (p : ℕ) (model : MixedModel) (layers : Layers) (v : ℕ → ℕ → ℕ) (k : ℕ) (columns : List ℕ)
    : Type 0 where
  pub ccf : Contents
  pub is : IsCcf p ccf
  pub right : IsRightFormFor p model layers ccf
  pub last : IsLastSingular p (mixed_matrix_of model) layers ccf v k
  pub columns_are : AreColumnsOfBlock ccf k columns

-- the rank is R(M), which is below the number of equations or of unknowns
abbrev pub IsOpen : ℕ → MixedMatrix → ℕ → Type 0
IsOpen p M rank = IsStructuralRank p M rank × ((rank < M.rows) ⊎ (rank < M.columns))

-- over the residues modulo p: solving the model with these values, by rising equation and then unknown, and these right
-- sides tells this; each number of a solution is seen as its number, which is below p
abbrev pub IsSolvingBy : {T : Type 0} → (T → ℕ) → ℕ → MixedModel → Layers → (values right : List ℕ) → Solving T →
    Type 0
IsSolvingBy number p model layers values right (Open rank) = IsOpen p (mixed_matrix_of model) rank
IsSolvingBy number p model layers values right (Singular k columns) =
    IsSingularAt p model layers (values_of (mixed_matrix_of model) values) k columns
IsSolvingBy number p model layers values right (Solution x) =
    IsModelSolution p (mixed_matrix_of model) (values_of (mixed_matrix_of model) values) (slice_index right)
    (map number x) × All (λ residue. residue < p) (map number x)

-- whether it is a solution
abbrev pub is_solution : {T : Type 0} → Solving T → Bool
is_solution (Open rank) = false
is_solution (Singular k columns) = false
is_solution (Solution x) = true

-- two solvings of one problem, by layers of the model, are both solutions, or none is
abbrev pub SolvingsEndAlike : Type 0
SolvingsEndAlike =
    (number numbered : ℕ → ℕ) (p : ℕ) (model : MixedModel) (values right : List ℕ) (layers others : Layers)
    (a b : Solving ℕ) → IsSolvingBy number p model layers values right a →
    IsSolvingBy numbered p model others values right b → is_solution a ≡ is_solution b
