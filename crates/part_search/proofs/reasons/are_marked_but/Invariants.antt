use Rattle.part_search.specs.Steps.{AreMarkedBut}
use Rattle.part_search.proofs.reasons.are_marked_but.Given as goal

abbrev pub invariant-loop-x : goal.invariant-loop-x
invariant-loop-x l = record { marked : AreMarkedBut l.marks l.parts l.part l.x }
