use Rattle.std.proofs.Common.{map}
use Rattle.block_solver.specs.Numbers.{LacksOrigins}
use Rattle.block_solver.proofs.numbers.without_q.Given as goal

abbrev pub invariant-loop-row : goal.invariant-loop-row
invariant-loop-row g l =
    let number = g.F.Field.number in
    LacksOrigins l.row l.layered.q_origins (map number l.right) (map number l.rest.items)
