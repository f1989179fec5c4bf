use Rattle.std.proofs.Common.{map}
use Rattle.block_solver.specs.Numbers.{AreSidesAt}
use Rattle.block_solver.proofs.numbers.t_sides_of.Given as goal

abbrev pub invariant-loop-row : goal.invariant-loop-row
invariant-loop-row g l =
    let number = g.F.Field.number in
    AreSidesAt l.row l.layered.t_origins (map number l.rest) (map number l.sides.items)
