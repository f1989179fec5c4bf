use Rattle.dense_q.proofs.TableLaws.{numbers-matrix}
use Rattle.dense_q.proofs.matrix.Mat.cols.Goals as goal

pub returns-clause-matrix : goal.returns-clause-matrix
returns-clause-matrix g c = rw (← c.self.view_is) (numbers-matrix g.F.Field.number c.self.inside.width c.self.inside.rows.items c.self.invariant)
