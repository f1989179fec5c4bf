use Rattle.part_arcs.specs.Leading.{AreLedTo}
use Rattle.part_arcs.specs.Marking.{first_numbers}
use Rattle.part_arcs.proofs.leading.put_keys.Given as goal

abbrev pub invariant-loop-item : goal.invariant-loop-item
invariant-loop-item g l = record { led : AreLedTo (first_numbers l.items) l.y l.item-index l.fn.arcs.items l.arcs.items }
