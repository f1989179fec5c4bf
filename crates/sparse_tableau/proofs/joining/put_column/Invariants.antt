use Rattle.std.proofs.Common.{map, slice_index}
use Rattle.sparse_tableau.proofs.JoinLaws.{IsColumnPutTo}
use Rattle.sparse_tableau.proofs.joining.put_column.Given as goal

abbrev pub invariant-loop-i : goal.invariant-loop-i
invariant-loop-i g l = IsColumnPutTo l.fn.m l.m l.col (λ j. slice_index (map g.F.Field.number l.items) j) l.i
