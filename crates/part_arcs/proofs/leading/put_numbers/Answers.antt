use Rattle.std.proofs.Common.{◌+◌, ℕ, List, slice_index, refl, subst, sym, ap, ◌∙◌}
use Rattle.part_arcs.specs.Leading.{AreLedTo}
use Rattle.part_arcs.proofs.ArcLists.{led-put, led-stay}
use Rattle.part_arcs.proofs.leading.put_numbers.Goals as goal
use Rattle.part_arcs.proofs.leading.put_numbers.Goals.{then-number-y+in_ok-push, else-number-y}

pub loop-number-preserved : goal.loop-number-preserved
loop-number-preserved c =
    let list = c.args.list.now in
    let y = c.args.y in
    let k = c.loop-number.number-index in
    let old = c.args.arcs.now.items in
    let now = c.loop-number.arcs.items in
    let P : List (ℕ × ℕ) → Type 0 = λ arcs. AreLedTo list y (k + 1) old arcs in
    record {
      led = elim c.if-number-y.branch [
        | then-number-y+in_ok-push w ↦ subst P (sym (ap (λ v. v.items) w.arcs-is ∙ w.in_ok-push.ensures.items))
            (led-put list y k (slice_index list k) old now c.loop-number.invariant.led refl w.if-number-y.true)
        | else-number-y w ↦ subst P (sym (ap (λ v. v.items) w.arcs-is)) (led-stay list y k old now c.loop-number.invariant.led w.if-number-y.false)
      ];
    }
