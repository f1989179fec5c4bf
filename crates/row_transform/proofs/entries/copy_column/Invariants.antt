use Rattle.std.proofs.Common.{◌-◌}
use Rattle.row_transform.proofs.EntryEdits.{IsCopiedTo}
use Rattle.row_transform.proofs.entries.copy_column.Given as goal

abbrev pub invariant-loop-row : goal.invariant-loop-row
invariant-loop-row l = IsCopiedTo l.from l.fn.into l.into l.col l.at

abbrev pub decreases-loop-row : goal.decreases-loop-row
decreases-loop-row l = l.rows - l.at
