use Rattle.std.proofs.Common.{map}
use Rattle.part_arcs.specs.Leading.{AreLed}
use Rattle.part_arcs.specs.Marking.{first_numbers}
use Rattle.part_arcs.proofs.leading.put_entries.Given as goal

abbrev pub invariant-loop-pair : goal.invariant-loop-pair
invariant-loop-pair g l = record { led : AreLed (map first_numbers l.rows) l.pairs l.pair-index l.fn.arcs.items l.arcs.items }
