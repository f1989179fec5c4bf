use Rattle.linear_algebra.specs.Products.{transposed}
use Rattle.sparse_q.specs.Tables.{sparse_rows, number_in}
use Rattle.sparse_q.proofs.MadeLaws.{IsMadeTo}
use Rattle.sparse_q.proofs.matrix.SparseMat.turned.Given as goal

abbrev pub invariant-loop-j : goal.invariant-loop-j
invariant-loop-j g l = IsMadeTo (sparse_rows l.self) (transposed (number_in l.self)) l.rows.items l.j
