use Rattle.value_lists.proofs.Numbers.{fixes-at}
use Rattle.value_lists.proofs.fixing.fix.Goals as goal

pub returns : goal.returns
returns g c = fixes-at g.F.Field.modulus c.args.model.now c.set_place.new.self c.args.i c.args.j (g.F.Field.number c.args.number) _
    c.in_ok-set_place.ensures.set c.sum_at-sum.ensures.sum
