use Rattle.part_search.specs.Steps.{HavePart}
use Rattle.part_search.proofs.leading.have_part.Given as goal

abbrev pub invariant-loop-x : goal.invariant-loop-x
invariant-loop-x l = record { have : HavePart l.marks l.parts l.part l.x }
