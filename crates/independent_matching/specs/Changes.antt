-- The layered matrices of a model before an edit of one equation and after it.
use Rattle.std.specs.Prelude.{List, length, slice_index, ℕ, ◌+◌, ◌-◌, ◌≡◌, Bool, true, false}
use Rattle.mixed_matrices.specs.LayeredMatrices.{LayeredMatrix}
use Rattle.mixed_matrices.specs.Layerings.{IsLayeredMatrixOf, Origins}
use Rattle.mixed_matrices.specs.Models.{MixedMatrix}
use Rattle.mixed_model.specs.Layers.{Layers, layered_matrix_of, split_of}
use Rattle.mixed_edit_laws.specs.Changes.{IsAdded, IsChanged, IsRemoved}
use Rattle.independent_matching.specs.declared.change.Change.{Change}
use Rattle.independent_matching.specs.declared.change.Change.TheVariants.{Added, Removed, Changed}

-- the model N is M after the change; an added equation stands last
abbrev pub IsAfter : Change → MixedMatrix → MixedMatrix → Type 0
IsAfter Added M N = IsAdded M N
IsAfter (Removed e) M N = IsRemoved M N e
IsAfter (Changed e) M N = IsChanged M N e

-- the number of the equation, where there are n equations after the change
abbrev pub told_equation : Change → ℕ → ℕ
told_equation Added n = n - 1
told_equation (Removed e) n = e
told_equation (Changed e) n = e

-- how many equations there were
abbrev pub equations_before : Change → ℕ → ℕ
equations_before Added n = n - 1
equations_before (Removed e) n = n + 1
equations_before (Changed e) n = n

-- whether the equation is there after the change
abbrev pub is_there : Change → Bool
is_there Added = true
is_there (Removed e) = false
is_there (Changed e) = true

-- the equations that a layered matrix tells for its rows, and these split ones
abbrev pub told_origins : Layers → List ℕ → Origins
told_origins layers split = record {
  of_q = slice_index layers.q_origins;
  of_t = slice_index layers.t_origins;
  of_z = slice_index split;
  split = length split;
}

-- L is the layered matrix of a model, and `new` is that of the model after the change, with the origins that it tells
pub record IsEdit (change : Change) (L : LayeredMatrix) (new : Layers) : Type 0 where
  pub before : MixedMatrix
  pub after : MixedMatrix
  pub origins : Origins
  pub split : List ℕ
  pub layered : IsLayeredMatrixOf before L origins
  pub layered_after : IsLayeredMatrixOf after (layered_matrix_of new) (told_origins new split)
  pub count : split_of new ≡ length split
  pub change_is : IsAfter change before after

-- L has so many Q rows, T rows and columns
pub record HasLayerSizes (q_rows t_rows columns : ℕ) (L : LayeredMatrix) : Type 0 where
  pub q_rows_are : L.q_rows ≡ q_rows
  pub t_rows_are : L.t_rows ≡ t_rows
  pub columns_are : L.columns ≡ columns

-- `new` is that of a layered matrix of these sizes, after the change
pub record IsEditOfSizes (change : Change) (q_rows t_rows columns : ℕ) (new : Layers) : Type 0 where
  pub L : LayeredMatrix
  pub sizes : HasLayerSizes q_rows t_rows columns L
  pub edit : IsEdit change L new
