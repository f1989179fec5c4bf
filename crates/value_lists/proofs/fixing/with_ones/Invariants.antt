use Rattle.std.proofs.Common.{◌≡◌}
use Rattle.mixed_model.specs.Models.{mixed_matrix_of}
use Rattle.value_lists.specs.Fixing.{IsFixedTo}
use Rattle.value_lists.proofs.fixing.with_ones.Given as goal

abbrev pub invariant-loop-i : goal.invariant-loop-i
invariant-loop-i g l = (l.ones.equations ≡ l.model.equations) × (l.ones.unknowns ≡ l.model.unknowns)
    × IsFixedTo g.F.Field.modulus (mixed_matrix_of l.model) (λ _ _. 1) l.i 0 (mixed_matrix_of l.ones)
