use Rattle.std.proofs.Common.{map}
use Rattle.block_solver.specs.Blocks.{IsSolving, block_system}
use Rattle.block_solver.proofs.blocks.solve_blocks.Given as goal

abbrev pub invariant-loop-k : goal.invariant-loop-k
invariant-loop-k g l =
    let number = g.F.Field.number in
    IsSolving g.F.Field.modulus (block_system number l.p l.t l.p_right l.t_right) l.n l.blocks (map number l.x.items) l.k
