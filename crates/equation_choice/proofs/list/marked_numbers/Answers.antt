use Rattle.std.proofs.Common.{◌+◌, ℕ, List, ap, subst, sym, ◌∙◌}
use Rattle.exchange_graph.specs.Marks.{members_of}
use Rattle.equation_choice.specs.Lists.{AreMarkedBelow}
use Rattle.equation_choice.proofs.PlaceLaws.{marked-less, marked-more}
use Rattle.equation_choice.proofs.list.marked_numbers.Goals as goal
use Rattle.equation_choice.proofs.list.marked_numbers.Goals.{then-marks-number+in_ok-push, else-marks-number}

pub loop-number-preserved : goal.loop-number-preserved
loop-number-preserved c =
    let A = members_of c.args.marks.now in
    let n = c.loop-number.number in
    let list = c.loop-number.list.items in
    let P : List ℕ → Type 0 = λ items. AreMarkedBelow A (n + 1) items in
    elim c.if-marks-number.branch [
      | then-marks-number+in_ok-push w ↦ subst P (sym (ap (λ v. v.items) w.list-is ∙ w.in_ok-push.ensures.items))
          (marked-more A n list c.loop-number.invariant w.if-marks-number.true)
      | else-marks-number w ↦ subst P (sym (ap (λ v. v.items) w.list-is))
          (marked-less A n list c.loop-number.invariant w.if-marks-number.false)
    ]
