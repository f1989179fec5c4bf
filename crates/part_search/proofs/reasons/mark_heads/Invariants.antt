use Rattle.part_search.specs.Steps.{AreMarkedWith}
use Rattle.part_search.proofs.reasons.mark_heads.Given as goal

abbrev pub invariant-loop-head : goal.invariant-loop-head
invariant-loop-head l = record { marked : AreMarkedWith l.fn.marks l.heads l.head-index l.marks }
