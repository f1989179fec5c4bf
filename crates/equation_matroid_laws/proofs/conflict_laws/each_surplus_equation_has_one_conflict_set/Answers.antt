use Rattle.equation_matroid_laws.proofs.ConflictSets.{one_conflict_set}
use Rattle.equation_matroid_laws.proofs.conflict_laws.each_surplus_equation_has_one_conflict_set.Goals as goal

pub returns : goal.returns
returns c p prime big M e el surplus = one_conflict_set p prime M big e el surplus
