use Rattle.std.proofs.Common.{map, slice_index}
use Rattle.sparse_tableau.proofs.JoinLaws.{IsRowPutTo}
use Rattle.sparse_tableau.proofs.joining.put_row.Given as goal

abbrev pub invariant-loop-j : goal.invariant-loop-j
invariant-loop-j g l = IsRowPutTo l.fn.m l.m l.row (λ j. slice_index (map g.F.Field.number l.items) j) l.j
