use Rattle.sparse_q.proofs.MadeLaws.{IsDenseTo}
use Rattle.sparse_q.proofs.matrix.SparseMat.dense.Given as goal

abbrev pub invariant-loop-i : goal.invariant-loop-i
invariant-loop-i g l = IsDenseTo l.self l.m l.i
