use Rattle.std.proofs.Common.{◌≡◌, ℕ, ◌+◌, ◌<◌, length, slice_index}
use Rattle.dense_q.specs.Tables.{height, entry}
use Rattle.mixed_model.specs.Models.{mixed_matrix_of}
use Rattle.mixed_layering.specs.Places.{constant_place}
use Rattle.mixed_layering.proofs.constants.constants_of.Given as goal

abbrev pub invariant-loop-equation : goal.invariant-loop-equation
invariant-loop-equation g l = record {
  height_is : height l.q ≡ l.equation-index;
  width_is : l.q.width ≡ length l.model.unknowns + length l.split;
  filled : (i j : ℕ) → i < l.equation-index → j < l.q.width →
      entry l.q i j ≡ constant_place (mixed_matrix_of l.model) l.split (slice_index l.equations i) j;
}
