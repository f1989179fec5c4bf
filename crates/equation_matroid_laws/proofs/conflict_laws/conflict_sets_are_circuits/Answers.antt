use Rattle.equation_matroid_laws.proofs.ConflictSets.{circuit}
use Rattle.equation_matroid_laws.proofs.conflict_laws.conflict_sets_are_circuits.Goals as goal

pub returns : goal.returns
returns c p prime big M e el surplus B C choice = circuit p prime M big e el surplus B C choice
