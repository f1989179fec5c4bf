use Rattle.sparse_q.specs.Rows.{IsRowCut}
use Rattle.sparse_q.proofs.ShelfLaws.{AreChangedTo}
use Rattle.sparse_q.proofs.shelf.remove_column.Given as goal

abbrev pub invariant-loop-row : goal.invariant-loop-row
invariant-loop-row g l = AreChangedTo (IsRowCut l.at) l.fn.rows l.rows l.row-index
