use Rattle.std.proofs.Common.{map}
use Rattle.sparse_q.proofs.MadeLaws.{IsPutTo}
use Rattle.sparse_q.proofs.row.SparseRow.put_into.Given as goal

abbrev pub invariant-loop-entry : goal.invariant-loop-entry
invariant-loop-entry g l = IsPutTo l.fn.m l.i
    (map (λ e. record { column = e.column; number = g.F.Field.number e.value }) l.entry-items) l.m l.entry-index
