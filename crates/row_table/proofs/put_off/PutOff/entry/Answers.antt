use Rattle.std.proofs.Common.{ap, ◌∙◌, ◌*◌}
use Rattle.dense_q.specs.Tables.{entry}
use Rattle.row_table.specs.PutOffs.{Kept}
use Rattle.row_table.proofs.PutOffLaws.{added-next}
use Rattle.row_table.proofs.put_off.PutOff.entry.Goals as goal

pub loop-t-preserved : goal.loop-t-preserved
loop-t-preserved g c =
    let p = g.F.Field.modulus in
    let now : Kept = c.args.self.now in
    let i = c.args.i in
    let j = c.args.j in
    let t = c.loop-t.t in
    added-next p (entry now.stored i j) t _ _ _ (λ t. entry now.factors i t * entry now.pending t j) c.loop-t.invariant
    (ap (λ x. x * g.F.Field.number c.get-in-loop-t.result) (c.get.ensures
    ∙ ap (λ (d : Kept). entry d.factors i t) c.self.view_is)
    ∙ ap (λ y. entry now.factors i t * y) (c.get-in-loop-t.ensures
    ∙ ap (λ (d : Kept). entry d.pending t j) c.self.view_is)) c.plus_multiple-sum.ensures
