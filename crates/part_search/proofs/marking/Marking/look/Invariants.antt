use Rattle.std.proofs.Common.{take}
use Rattle.residue_theory.specs.Sets.{has}
use Rattle.part_search.specs.Markings.{AreMarkedToo}
use Rattle.part_search.proofs.marking.Marking.look.Given as goal

abbrev pub invariant-loop-place : goal.invariant-loop-place
invariant-loop-place l = AreMarkedToo (has (take l.place-index l.list)) l.fn.self.marks.items l.fn.self.queue.items l.self.marks.items l.self.queue.items
