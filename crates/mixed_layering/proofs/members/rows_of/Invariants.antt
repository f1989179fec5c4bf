use Rattle.mixed_model.specs.Models.{mixed_matrix_of}
use Rattle.mixed_layering.specs.Members.{AreRows}
use Rattle.mixed_layering.proofs.members.rows_of.Given as goal

abbrev pub invariant-loop-equation : goal.invariant-loop-equation
invariant-loop-equation g l = AreRows (mixed_matrix_of l.model) l.equation l.rows.constants.items l.rows.symbols.items l.rows.split.items
