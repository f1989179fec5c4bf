use Rattle.part_arcs.specs.Marking.{AreOthers}
use Rattle.part_arcs.proofs.marking.others.Given as goal

abbrev pub invariant-loop-mark : goal.invariant-loop-mark
invariant-loop-mark l = record { others : AreOthers l.marks l.mark-index l.now.items }
