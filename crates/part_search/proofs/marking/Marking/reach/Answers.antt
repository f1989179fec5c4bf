use Rattle.std.proofs.Common.{◌<◌, ◌∙◌, ℕ, List, length, vec_len, sym, ap, subst, arith}
use Rattle.residue_theory.specs.Sets.{has}
use Rattle.part_rules.specs.Listed.{marked}
use Rattle.part_search.specs.Neighbours.{listed}
use Rattle.part_search.specs.Markings.{AreMarkedToo}
use Rattle.part_search.proofs.ListLaws.{list-read}
use Rattle.part_search.proofs.MarkLaws.{item-read}
use Rattle.part_search.proofs.SearchLaws.{search-first, search-next, search-last, queue-within}
use Rattle.part_search.proofs.marking.Marking.reach.Goals as goal

pub loop-head-init : goal.loop-head-init
loop-head-init c =
    let first = c.args.self.now in
    search-first (listed c.args.neighbours.now.lists.items) (vec_len first.marks) first.marks.items first.queue.items (omega arith) c.requires.queued

pub look-requires-clause-below : goal.look-requires-clause-below
look-requires-clause-below c =
    let S = c.loop-head.invariant in
    let lists = c.args.neighbours.now.lists.items in
    let head = c.loop-head.head in
    let place = c.index-place.result.now in
    let at = item-read c.loop-head.self.queue.items head place (omega arith) c.index-place.ensures in
    let below : place < length lists = omega (arith, at, S.queued.below head (omega arith), S.count, c.requires.count) in
    let read = c.deref.ensures.value ∙ sym (list-read lists place c.index.result.now below c.index.ensures) in
    λ y h. omega (arith, c.requires.below place y (ap (λ ys. has ys y) (sym read) ∙ h), S.count)

pub loop-head-preserved : goal.loop-head-preserved
loop-head-preserved c =
    let S = c.loop-head.invariant in
    let lists = c.args.neighbours.now.lists.items in
    let first = c.args.self.now in
    let old = c.loop-head.self in
    let now = c.look.new.self in
    let head = c.loop-head.head in
    let place = c.index-place.result.now in
    let more : head < length old.queue.items = omega arith in
    let at = item-read old.queue.items head place more c.index-place.ensures in
    let below : place < length lists = omega (arith, at, S.queued.below head more, S.count, c.requires.count) in
    let read = c.deref.ensures.value ∙ sym (list-read lists place c.index.result.now below c.index.ensures) in
    search-next (listed lists) (vec_len first.marks) (marked first.marks.items) old.marks.items now.marks.items
    old.queue.items now.queue.items head place S more at
    (subst (λ (ys : List ℕ). AreMarkedToo (has ys) old.marks.items old.queue.items now.marks.items now.queue.items) read c.in_ok-look.ensures)

pub loop-head-smaller : goal.loop-head-smaller
loop-head-smaller c =
    let S = c.loop-head.invariant in
    omega (arith, queue-within c.loop-head.self.marks.items c.loop-head.self.queue.items S.queued, S.count)

pub returns : goal.returns
returns c =
    let first = c.args.self.now in
    let now = c.loop-head.self in
    search-last (listed c.args.neighbours.now.lists.items) (vec_len first.marks) (marked first.marks.items)
    now.marks.items now.queue.items c.loop-head.head c.loop-head.invariant (omega arith)
