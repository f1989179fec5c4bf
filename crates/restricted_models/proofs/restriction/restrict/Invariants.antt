use Rattle.restricted_models.proofs.Lists.{IsRestricting}
use Rattle.restricted_models.proofs.restriction.restrict.Given as goal

abbrev pub invariant-loop-k : goal.invariant-loop-k
invariant-loop-k g l = IsRestricting l.model l.equations l.left l.k l.part
