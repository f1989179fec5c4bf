use Rattle.std.proofs.Common.{◌≡◌, ◌<◌, ℕ, List, true, length, slice_set, sym, subst, ◌∙◌, arith}
use Rattle.residue_theory.specs.Sets.{only}
use Rattle.residue_theory.proofs.SetLaws.{eqb_true}
use Rattle.part_rules.specs.Listed.{marked}
use Rattle.part_search.specs.Markings.{AreMarkedToo}
use Rattle.part_search.proofs.MarkLaws.{grown-put, grown-same, mark-read}
use Rattle.part_search.proofs.marking.Marking.put.Goals as goal

pub returns-in_ok-push : goal.returns-in_ok-push
returns-in_ok-push c =
    let marks = c.args.self.now.marks.items in
    let queue = c.args.self.now.queue.items in
    let place = c.args.place in
    let below : place < length marks = omega arith in
    subst (λ (later : List ℕ). AreMarkedToo (only place) marks queue (slice_set marks place true) later) (sym c.in_ok-push.ensures.items)
    (grown-put marks queue place c.requires.queued below (mark-read marks place c.index.result.now below c.index.ensures ∙ c.if-not-index.true))

pub returns-else-not-index : goal.returns-else-not-index
returns-else-not-index c =
    let marks = c.args.self.now.marks.items in
    let place = c.args.place in
    let below : place < length marks = omega arith in
    grown-same (only place) marks c.args.self.now.queue.items c.requires.queued
    (λ y h. subst (λ (x : ℕ). marked marks x ≡ true) (sym (eqb_true y place h))
    (mark-read marks place c.index.result.now below c.index.ensures ∙ c.if-not-index.false))
