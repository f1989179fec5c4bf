use Rattle.std.proofs.Common.{map}
use Rattle.block_solver.specs.Outcomes.{AreUnknownsOf}
use Rattle.block_solver.proofs.solving.first_numbers.Given as goal

abbrev pub invariant-loop-column : goal.invariant-loop-column
invariant-loop-column g l =
    let number = g.F.Field.number in
    AreUnknownsOf l.column (map number l.x) (map number l.numbers.items)
