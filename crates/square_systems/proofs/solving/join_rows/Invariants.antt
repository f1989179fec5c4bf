use Rattle.std.proofs.Common.{map, slice_index}
use Rattle.dense_q.specs.Tables.{entry}
use Rattle.square_systems.specs.Joined.{AreJoined}
use Rattle.square_systems.proofs.solving.join_rows.Given as goal

abbrev pub invariant-loop-i : goal.invariant-loop-i
invariant-loop-i g l =
    AreJoined g.F.Field.modulus l.table.width (entry l.table) (slice_index (map g.F.Field.number l.right)) l.echelon l.i
