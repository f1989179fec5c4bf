use Rattle.std.proofs.Common.{map}
use Rattle.sparse_q.proofs.RowLaws.{IsTimesTo}
use Rattle.sparse_q.proofs.row.SparseRow.scale.Given as goal

abbrev pub invariant-loop-entry : goal.invariant-loop-entry
invariant-loop-entry g l = IsTimesTo g.F.Field.modulus (g.F.Field.number l.factor)
    (map (λ e. record { column = e.column; number = g.F.Field.number e.value }) l.initial.entry-items)
    (map (λ e. record { column = e.column; number = g.F.Field.number e.value }) l.entry-items) l.entry-index
