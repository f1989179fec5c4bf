use Rattle.std.proofs.Common.{◌<◌, ap, length, arith}
use Rattle.std.proofs.lemmas.Grind.{common_steps}
use Rattle.dense_q.specs.Tables.{height}
use Rattle.dense_q.proofs.TableLaws.{numbers-set}
use Rattle.dense_q.proofs.matrix.Mat.set.Goals as goal

pub returns : goal.returns
returns g c =
    let less : c.args.i < length c.self.inside.rows.items = grind (arith, common_steps, ap height c.self.view_is) in
    rw (← c.self.view_is) (ap (λ rs. record { width = c.self.inside.width; rows = rs })
    (numbers-set g.F.Field.number c.self.inside.rows.items c.args.i c.args.j c.index_mut.result.now c.args.v less
    c.index_mut.ensures.value))
