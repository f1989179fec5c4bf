use Rattle.std.proofs.Common.{◌<◌, ap, length, arith}
use Rattle.std.proofs.lemmas.Grind.{common_steps}
use Rattle.dense_q.specs.Tables.{height}
use Rattle.dense_q.proofs.TableLaws.{map-swap, stored-swap}
use Rattle.dense_q.proofs.matrix.Mat.swap_rows.Goals as goal

pub invariant_of-self : goal.invariant_of-self
invariant_of-self g c =
    let first : c.args.i < length c.self.inside.rows.items = grind (arith, common_steps, ap height c.self.view_is) in
    let second : c.args.j < length c.self.inside.rows.items = grind (arith, common_steps, ap height c.self.view_is) in
    rw c.swap.ensures.items (stored-swap c.self.inside.width c.self.inside.rows.items c.args.i c.args.j first second c.self.invariant)

pub returns : goal.returns
returns g c =
    let first : c.args.i < length c.self.inside.rows.items = grind (arith, common_steps, ap height c.self.view_is) in
    let second : c.args.j < length c.self.inside.rows.items = grind (arith, common_steps, ap height c.self.view_is) in
    rw (c.swap.ensures.items, ← c.self.view_is) (ap (λ rs. record { width = c.self.inside.width; rows = rs })
    (map-swap _ c.self.inside.rows.items c.args.i c.args.j first second))
