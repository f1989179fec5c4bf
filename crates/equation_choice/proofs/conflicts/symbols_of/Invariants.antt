use Rattle.std.proofs.Common.{◌≡◌, ◌<◌, ℕ, length}
use Rattle.mixed_matrices.specs.Layerings.{has_symbol}
use Rattle.mixed_model.specs.Models.{mixed_matrix_of}
use Rattle.exchange_graph.specs.Marks.{members_of}
use Rattle.equation_choice.proofs.conflicts.symbols_of.Given as goal

abbrev pub invariant-loop-equation : goal.invariant-loop-equation
invariant-loop-equation g l = record {
  count : length l.marks.items ≡ l.equation;
  marks : (x : ℕ) → x < l.equation → members_of l.marks.items x ≡ has_symbol (mixed_matrix_of l.model) x;
}
