use Rattle.dense_q.specs.Tables.{entry}
use Rattle.sparse_q.proofs.MadeLaws.{IsMadeTo}
use Rattle.sparse_q.proofs.matrix.SparseMat.of.Given as goal

abbrev pub invariant-loop-i : goal.invariant-loop-i
invariant-loop-i g l = IsMadeTo l.q.width (entry l.q) l.rows.items l.i
