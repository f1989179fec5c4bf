use Rattle.model_studies.proofs.Listed.{ListsBelowOf}
use Rattle.model_studies.proofs.conflicts.listed.Given as goal

abbrev pub invariant-loop-equation : goal.invariant-loop-equation
invariant-loop-equation l = ListsBelowOf l.equations l.sets l.equation l.conflicts.items
