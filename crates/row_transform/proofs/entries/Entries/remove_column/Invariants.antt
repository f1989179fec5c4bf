use Rattle.row_transform.proofs.EntryEdits.{IsLoweredTo}
use Rattle.row_transform.proofs.entries.Entries.remove_column.Given as goal

abbrev pub invariant-loop-col : goal.invariant-loop-col
invariant-loop-col l = IsLoweredTo l.fn.self.bits l.self.bits l.at l.col
