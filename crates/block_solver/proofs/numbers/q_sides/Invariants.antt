use Rattle.std.proofs.Common.{map}
use Rattle.block_solver.specs.Numbers.{AreSidesAt}
use Rattle.block_solver.proofs.numbers.q_sides.Given as goal

abbrev pub invariant-loop-row : goal.invariant-loop-row
invariant-loop-row g l =
    let number = g.F.Field.number in
    AreSidesAt l.row l.layered.q_origins (map number l.right) (map number l.sides.items)
