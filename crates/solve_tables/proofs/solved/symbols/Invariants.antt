use Rattle.std.proofs.Common.{◌≡◌, length}
use Rattle.residue_theory.specs.Sums.{size_on, sum_below}
use Rattle.mixed_model.specs.Models.{symbol_of}
use Rattle.solve_tables.proofs.solved.symbols.Given as goal

abbrev pub invariant-loop-i : goal.invariant-loop-i
invariant-loop-i l = l.count ≡ sum_below l.i (λ k. size_on (symbol_of l.model k) (length l.model.unknowns))
