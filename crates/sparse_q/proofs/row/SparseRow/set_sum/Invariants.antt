use Rattle.std.proofs.Common.{◌≡◌, ◌+◌, ◌-◌, length}
use Rattle.sparse_q.specs.Rows.{IsMerged}
use Rattle.sparse_q.proofs.row.SparseRow.set_sum.Given as goal

abbrev pub invariant-loop-done : goal.invariant-loop-done
invariant-loop-done g l = record {
  width : l.self.width ≡ l.fn.self.width;
  room : l.self.room ≡ l.fn.self.room;
  merged : IsMerged g.F.Field.modulus (g.F.Field.number l.factor) l.self.width l.target.items l.source.items
      l.self.items l.done.target l.done.source;
}

abbrev pub decreases-loop-done : goal.decreases-loop-done
decreases-loop-done g l = length l.target.items + length l.source.items - (l.done.target + l.done.source)
