use Rattle.std.proofs.Common.{◌≡◌}
use Rattle.residue_theory.specs.Sums.{size_on}
use Rattle.mixed_model.specs.Models.{symbol_of}
use Rattle.solve_tables.proofs.solved.symbols_of.Given as goal

abbrev pub invariant-loop-j : goal.invariant-loop-j
invariant-loop-j l = l.count ≡ size_on (symbol_of l.model l.i) l.j
