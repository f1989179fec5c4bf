use Rattle.std.proofs.Common.{◌-◌, map, slice_index}
use Rattle.sparse_q.specs.Tables.{sparse_rows}
use Rattle.sparse_tableau.specs.Joins.{IsJoinedTo}
use Rattle.sparse_tableau.proofs.joining.reduce.Given as goal

abbrev pub invariant-loop-column : goal.invariant-loop-column
invariant-loop-column g l = IsJoinedTo g.F.Field.modulus (sparse_rows l.fn.v - 1) l.at l.column
    (λ j. slice_index (map g.F.Field.number l.items) j) l.base l.fn.transform.s l.transform.s l.fn.transform.p l.transform.p l.fn.v l.v
    l.fn.entries.bits l.entries.bits
