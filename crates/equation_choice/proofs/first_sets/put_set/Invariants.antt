use Rattle.equation_choice.proofs.FirstSets.{HasPut}
use Rattle.equation_choice.proofs.first_sets.put_set.Given as goal

abbrev pub invariant-loop-equation : goal.invariant-loop-equation
invariant-loop-equation l = HasPut l.set l.k l.equation-index l.fn.first l.first
