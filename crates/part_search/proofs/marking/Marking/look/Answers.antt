use Rattle.std.proofs.Common.{refl, get_or, take, arith}
use Rattle.residue_theory.specs.Sets.{has}
use Rattle.residue_theory.proofs.SetLaws.{differ}
use Rattle.part_search.proofs.ListLaws.{has-at}
use Rattle.part_search.proofs.MarkLaws.{grown-same, grown-item, grown-list}
use Rattle.part_search.proofs.marking.Marking.look.Goals as goal

pub loop-place-init : goal.loop-place-init
loop-place-init c = grown-same (has (take 0 c.args.list.now)) c.args.self.now.marks.items c.args.self.now.queue.items
    c.requires.queued (λ y h. absurd (differ refl h))

pub put-requires-clause-place : goal.put-requires-clause-place
put-requires-clause-place c =
    let list = c.args.list.now in
    let k = c.loop-place.place-index in
    omega (arith, c.requires.below (get_or list k 0) (has-at list k (omega arith)), c.loop-place.invariant.count)

pub loop-place-preserved : goal.loop-place-preserved
loop-place-preserved c =
    let list = c.args.list.now in
    let k = c.loop-place.place-index in
    let first = c.args.self.now in
    let middle = c.loop-place.self in
    let now = c.put.new.self in
    grown-item list k (get_or list k 0) first.marks.items middle.marks.items now.marks.items first.queue.items
    middle.queue.items now.queue.items (omega arith) refl c.loop-place.invariant c.in_ok-put.ensures

pub returns : goal.returns
returns c =
    let first = c.args.self.now in
    let now = c.loop-place.self in
    grown-list c.args.list.now c.loop-place.place-index first.marks.items now.marks.items first.queue.items
    now.queue.items c.loop-place-test.false c.loop-place.invariant
