use Rattle.problem_heads.proofs.ValueSteps.{AreFirstValues}
use Rattle.problem_heads.proofs.values.values_of.Given as goal

abbrev pub invariant-loop-place : goal.invariant-loop-place
invariant-loop-place g l = AreFirstValues l.lines.numbers l.model l.place-index l.values.items
