use Rattle.std.proofs.Common.{◌+◌, ◌≡◌, ℕ, List, slice_index, subst, sym, ap, ◌∙◌}
use Rattle.part_arcs.specs.Leading.{AreLedTo}
use Rattle.part_arcs.specs.Marking.{first_numbers}
use Rattle.part_arcs.proofs.ArcLists.{led-put, led-stay}
use Rattle.part_arcs.proofs.MarkLaws.{key-given}
use Rattle.part_arcs.proofs.leading.put_keys.Goals as goal
use Rattle.part_arcs.proofs.leading.put_keys.Goals.{then-item-y+in_ok-push, else-item-y}

pub loop-item-preserved : goal.loop-item-preserved
loop-item-preserved g c =
    let items = c.args.items.now in
    let list = first_numbers items in
    let y = c.args.y in
    let k = c.loop-item.item-index in
    let old = c.args.arcs.now.items in
    let now = c.loop-item.arcs.items in
    let x = c.item-item.result.0 in
    let is : slice_index list k ≡ x = key-given items k c.item-item.result c.loop-item-test.true c.item-item.is in
    let P : List (ℕ × ℕ) → Type 0 = λ arcs. AreLedTo list y (k + 1) old arcs in
    record {
      led = elim c.if-item-y.branch [
        | then-item-y+in_ok-push w ↦ subst P (sym (ap (λ v. v.items) w.arcs-is ∙ w.in_ok-push.ensures.items))
            (led-put list y k x old now c.loop-item.invariant.led is w.if-item-y.true)
        | else-item-y w ↦ subst P (sym (ap (λ v. v.items) w.arcs-is)) (led-stay list y k old now c.loop-item.invariant.led (is ∙ w.if-item-y.false))
      ];
    }
