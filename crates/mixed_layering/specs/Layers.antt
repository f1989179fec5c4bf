-- What `layer` gives.
use Rattle.std.specs.Prelude.{ℕ, ◌+◌, ◌<◌, ◌≡◌, List, length, slice_index, slice_get, Some}
use Rattle.mixed_matrices.specs.Layerings.{Origins, IsLayeredMatrixOf}
use Rattle.mixed_model.specs.Models.{MixedModel, mixed_matrix_of}
use Rattle.mixed_model.specs.Layers.{Layers, layered_matrix_of, split_of}
use Rattle.mixed_model.specs.declared.origin.Origin.TheVariants.{Unknown, Split}

-- the origins that a layered matrix tells, with these split equations
abbrev pub origins_of : Layers → List ℕ → Origins
origins_of layers split = record {
  of_q = slice_index layers.q_origins;
  of_t = slice_index layers.t_origins;
  of_z = slice_index split;
  split = length split;
}

-- the layered matrix of a model, with its origins: the columns of the unknowns, and then of the split equations
pub record AreLayersOf (model : MixedModel) (layers : Layers) : Type 0 where
  pub split : List ℕ
  pub layered : IsLayeredMatrixOf (mixed_matrix_of model) (layered_matrix_of layers) (origins_of layers split)
  pub count : split_of layers ≡ length split
  pub unknowns : (j : ℕ) → j < length model.unknowns → slice_get layers.column_origins j ≡ Some (Unknown j)
  pub auxiliary : (k : ℕ) → k < length split
      → slice_get layers.column_origins (length model.unknowns + k) ≡ Some (Split (slice_index split k))
