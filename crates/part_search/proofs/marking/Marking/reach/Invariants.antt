use Rattle.std.proofs.Common.{◌-◌, vec_len}
use Rattle.part_rules.specs.Listed.{marked}
use Rattle.part_search.specs.Neighbours.{listed}
use Rattle.part_search.specs.Markings.{IsMarking}
use Rattle.part_search.proofs.marking.Marking.reach.Given as goal

abbrev pub invariant-loop-head : goal.invariant-loop-head
invariant-loop-head l = IsMarking (listed l.neighbours.lists.items) (vec_len l.fn.self.marks)
    (marked l.fn.self.marks.items) l.self.marks.items l.self.queue.items l.head

abbrev pub decreases-loop-head : goal.decreases-loop-head
decreases-loop-head l = vec_len l.fn.self.marks - l.head
