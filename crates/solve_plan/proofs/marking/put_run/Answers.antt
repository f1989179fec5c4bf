use Rattle.std.proofs.Common.{◌≡◌, ◌+◌, ℕ, List, true, ap, subst, sym, ◌∙◌}
use Rattle.residue_theory.proofs.SetLaws.{differ}
use Rattle.part_rules.specs.Listed.{marked}
use Rattle.solve_plan.specs.Marks.{AreMembersOf}
use Rattle.solve_plan.proofs.MarkSets.{clear-run}
use Rattle.solve_plan.proofs.MemberLists.{members-put, members-run, members-skip}
use Rattle.solve_plan.proofs.marking.put_run.Goals as goal
use Rattle.solve_plan.proofs.marking.put_run.Goals.{then-marks-i+in_ok-push, else-marks-i}

pub loop-i-preserved : goal.loop-i-preserved
loop-i-preserved c =
    let A : ℕ → Type 0 = λ i. marked c.args.marks.now i ≡ true in
    let n = c.loop-i.i in
    let list = c.loop-i.list.items in
    let P : List ℕ → Type 0 = λ items. AreMembersOf (n + 1) A items in
    elim c.if-marks-i.branch [
      | then-marks-i+in_ok-push w ↦ subst P (sym (ap (λ v. v.items) w.list-is ∙ w.in_ok-push.ensures.items))
          (members-put n A list c.loop-i.invariant w.if-marks-i.true)
      | else-marks-i w ↦ subst P (sym (ap (λ v. v.items) w.list-is)) (members-skip n A list c.loop-i.invariant (differ w.if-marks-i.false))
    ]

pub returns-then-not-has_mark : goal.returns-then-not-has_mark
returns-then-not-has_mark c =
    let marks = c.args.marks.now in
    members-run c.args.from c.args.end (λ i. marked marks i ≡ true) c.args.list.now.items c.requires.run c.requires.before
    (λ i low high is. differ (clear-run marks c.args.from c.args.end (c.has_mark.ensures.0 c.if-not-has_mark.true) i low high) is)
