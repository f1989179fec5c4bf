use Rattle.part_arcs.specs.Marking.{IsMarked, first_numbers}
use Rattle.part_arcs.proofs.marking.mark_keys.Given as goal

abbrev pub invariant-loop-item : goal.invariant-loop-item
invariant-loop-item g l = record { marked : IsMarked (first_numbers l.items) l.item-index l.fn.marks l.marks }
