use Rattle.model_edits.proofs.OrderLaws.{IsNoneBefore}
use Rattle.model_edits.proofs.order.number_of.Given as goal

abbrev pub invariant-loop-k : goal.invariant-loop-k
invariant-loop-k l = IsNoneBefore l.k l.word
