use Rattle.part_arcs.specs.Marking.{AreMarked}
use Rattle.part_arcs.proofs.marking.mark_symbols.Given as goal

abbrev pub invariant-loop-i : goal.invariant-loop-i
invariant-loop-i l = record { marked : AreMarked l.taken l.rows l.i l.fn.marks l.marks }
