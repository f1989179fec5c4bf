use Rattle.std.proofs.Common.{arith}
use Rattle.mixed_model.specs.Models.{symbol_of}
use Rattle.solve_tables.proofs.Counts.{size-most}
use Rattle.solve_tables.proofs.solved.symbols_of.Goals as goal

pub overflow_add-count : goal.overflow_add-count
overflow_add-count c = omega (
  arith,
  c.loop-j.invariant,
  size-most (symbol_of c.args.model.now c.args.i) c.loop-j.j,
  c.loop-j-test.true,
  c.unknowns-j-end.ensures.count,
  c.unknowns-j-end.ensures.model.unknowns.few,
)
