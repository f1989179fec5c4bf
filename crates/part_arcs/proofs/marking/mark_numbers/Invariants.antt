use Rattle.part_arcs.specs.Marking.{IsMarked}
use Rattle.part_arcs.proofs.marking.mark_numbers.Given as goal

abbrev pub invariant-loop-number : goal.invariant-loop-number
invariant-loop-number l = record { marked : IsMarked l.list l.number-index l.fn.marks l.marks }
