use Rattle.part_arcs.specs.Leading.{AreLedTo}
use Rattle.part_arcs.proofs.leading.put_numbers.Given as goal

abbrev pub invariant-loop-number : goal.invariant-loop-number
invariant-loop-number l = record { led : AreLedTo l.list l.y l.number-index l.fn.arcs.items l.arcs.items }
