use Rattle.dense_q.specs.Tables.{IsTableOf, entry}
use Rattle.row_entries.proofs.matrix.EntryMat.of.Given as goal

abbrev pub invariant-loop-i : goal.invariant-loop-i
invariant-loop-i g l = IsTableOf l.i l.q.width (entry l.q) l.m
