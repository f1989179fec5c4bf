use Rattle.linear_algebra.specs.Products.{identity}
use Rattle.sparse_q.proofs.MadeLaws.{IsMadeTo}
use Rattle.sparse_q.proofs.matrix.SparseMat.identity.Given as goal

abbrev pub invariant-loop-i : goal.invariant-loop-i
invariant-loop-i g l = IsMadeTo l.n identity l.rows.items l.i
