use Rattle.row_transform.proofs.EntryEdits.{IsRaisedTo}
use Rattle.row_transform.proofs.entries.Entries.insert_column.Given as goal

abbrev pub invariant-loop-col : goal.invariant-loop-col
invariant-loop-col l = IsRaisedTo l.columns l.fn.self.bits l.self.bits l.at l.col

abbrev pub decreases-loop-col : goal.decreases-loop-col
decreases-loop-col l = l.col
