use Rattle.dense_q.proofs.TableLaws.{numbers-matrix}
use Rattle.dense_q.proofs.matrix.Mat.is_matrix.Goals as goal

pub returns : goal.returns
returns g c = rw (← c.self.view_is) (numbers-matrix g.F.Field.number c.self.inside.width c.self.inside.rows.items c.self.invariant)
