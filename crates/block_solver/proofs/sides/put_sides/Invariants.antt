use Rattle.std.proofs.Common.{map}
use Rattle.cert_text.specs.Contents.{numbered_rows}
use Rattle.block_solver.specs.Rows.{PutsSides}
use Rattle.block_solver.proofs.sides.put_sides.Given as goal

abbrev pub invariant-loop-member : goal.invariant-loop-member
invariant-loop-member g l =
    let number = g.F.Field.number in
    PutsSides g.F.Field.modulus (map number l.fn.sides.items) (map number l.sides.items) l.member-index (numbered_rows number l.rows)
    (map number l.right) l.members (map number l.x)
