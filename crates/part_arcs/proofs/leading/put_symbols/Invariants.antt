use Rattle.part_arcs.specs.Leading.{AreLed}
use Rattle.part_arcs.proofs.leading.put_symbols.Given as goal

abbrev pub invariant-loop-pair : goal.invariant-loop-pair
invariant-loop-pair l = record { led : AreLed l.rows l.pairs l.pair-index l.fn.arcs.items l.arcs.items }
