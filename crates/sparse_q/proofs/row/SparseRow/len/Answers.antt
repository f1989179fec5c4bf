use Rattle.std.proofs.Common.{subst, ◌≤◌, length}
use Rattle.sparse_q.specs.Rows.{Row}
use Rattle.sparse_q.proofs.RowLaws.{kept-items}
use Rattle.sparse_q.proofs.row.SparseRow.len.Goals as goal

pub returns-clause-few : goal.returns-clause-few
returns-clause-few g c =
    subst (λ (r : Row). length r.items ≤ 8192) c.self.view_is (kept-items g.F.Field.modulus c.self.inside.width _ _
    c.self.invariant.0)
