use Rattle.std.proofs.Common.{◌-◌}
use Rattle.dense_q.specs.Tables.{entry, height}
use Rattle.row_entries.specs.Tables.{IsFilled}
use Rattle.row_entries.proofs.matrix.EntryMat.fill_last.Given as goal

abbrev pub invariant-loop-j : goal.invariant-loop-j
invariant-loop-j g l = IsFilled l.fn.self l.self (height l.fn.self - 1) l.j (entry l.q l.i)
