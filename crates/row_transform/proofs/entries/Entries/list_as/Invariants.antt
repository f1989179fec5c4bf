use Rattle.row_transform.proofs.EntryEdits.{IsListedAsTo}
use Rattle.row_transform.proofs.entries.Entries.list_as.Given as goal

abbrev pub invariant-loop-col : goal.invariant-loop-col
invariant-loop-col l = IsListedAsTo l.fn.self.bits l.self.bits l.like l.row l.col
