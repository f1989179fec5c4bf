use Rattle.std.proofs.Common.{◌≡◌, ◌+◌, ◌-◌, ap, arith, subst}
use Rattle.edit_desk.specs.Desks.{desk_limit, model_at}
use Rattle.mixed_layering.specs.Layers.{AreLayersOf}
use Rattle.mixed_model.specs.Layers.{Layers}
use Rattle.model_edits.specs.Orders.{IsSaidOrder}
use Rattle.desk_texts.proofs.PartsLaws.{told-in}
use Rattle.desk_texts.proofs.Talks.{of-some}
use Rattle.desk_texts.proofs.said.put_asked.Goals as goal

pub put_parts-requires-clause-parts : goal.put_parts-requires-clause-parts
put_parts-requires-clause-parts g c =
    let is : IsSaidOrder desk_limit c.args.line.now c.in-Ok-Some.order =
    of-some _ (IsSaidOrder desk_limit c.args.line.now) c.in-Ok-Some.field-0 c.in-Ok-Some.order c.in-Ok-Some.field-0-is
    c.in-Ok-Some.ensures.1 in
    let k = c.in-Ok-Some.order.model in
    let back : k + 1 - 1 ≡ k = omega arith in
    let layers = subst (λ i. AreLayersOf (model_at c.args.desk.now i) c.layered-layered.result.now) back c.layered-layered.ensures in
    told-in g.F.Field.modulus c.args.desk.now c.args.line.now c.args.rank c.args.parts.now c.in-Ok-Some.order
    c.layered-layered.result.now c.requires.count c.requires.asked is layers
    (omega (arith, c.is_matrix.ensures.narrow, ap (λ (l : Layers). l.q.width) c.layered.view_is))
