use Rattle.std.proofs.Common.{map}
use Rattle.part_arcs.specs.Marking.{AreMarked, first_numbers}
use Rattle.part_arcs.proofs.marking.mark_entries.Given as goal

abbrev pub invariant-loop-i : goal.invariant-loop-i
invariant-loop-i g l = record { marked : AreMarked l.taken (map first_numbers l.rows) l.i l.fn.marks l.marks }
