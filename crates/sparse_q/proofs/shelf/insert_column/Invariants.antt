use Rattle.std.proofs.Common.{◌≡◌}
use Rattle.sparse_q.specs.Rows.{row_raised}
use Rattle.sparse_q.proofs.ShelfLaws.{AreChangedTo}
use Rattle.sparse_q.proofs.shelf.insert_column.Given as goal

abbrev pub invariant-loop-row : goal.invariant-loop-row
invariant-loop-row g l = AreChangedTo (λ r s. s ≡ row_raised l.at r) l.fn.rows l.rows l.row-index
