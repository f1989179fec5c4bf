use Rattle.std.proofs.Common.{map}
use Rattle.block_solver.specs.Blocks.{PutsNumbers}
use Rattle.block_solver.proofs.sides.put_numbers.Given as goal

abbrev pub invariant-loop-place : goal.invariant-loop-place
invariant-loop-place g l =
    let number = g.F.Field.number in
    PutsNumbers l.columns (map number l.fn.x) (map number l.x) (map number l.numbers) l.place
