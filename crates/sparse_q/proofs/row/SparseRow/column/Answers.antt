use Rattle.std.proofs.Common.{subst, ◌≤◌, length}
use Rattle.sparse_q.specs.Rows.{Row}
use Rattle.sparse_q.proofs.RowLaws.{kept-items}
use Rattle.sparse_q.proofs.row.SparseRow.column.Goals as goal

pub returns-then-place-len-clause-few : goal.returns-then-place-len-clause-few
returns-then-place-len-clause-few g c =
    subst (λ (r : Row). length r.items ≤ 8192) c.self.view_is (kept-items g.F.Field.modulus c.self.inside.width _ _
    c.self.invariant.0)

pub returns-else-place-len-clause-few : goal.returns-else-place-len-clause-few
returns-else-place-len-clause-few g c =
    subst (λ (r : Row). length r.items ≤ 8192) c.self.view_is (kept-items g.F.Field.modulus c.self.inside.width _ _
    c.self.invariant.0)
