use Rattle.part_arcs.specs.Marking.{IsMarked, columns_of}
use Rattle.part_arcs.proofs.marking.mark_columns.Given as goal

abbrev pub invariant-loop-pair : goal.invariant-loop-pair
invariant-loop-pair l = record { marked : IsMarked (columns_of l.pairs) l.pair-index l.fn.marks l.marks }
