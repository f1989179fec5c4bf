use Rattle.equation_matroid_laws.proofs.ConflictSets.{minimal}
use Rattle.equation_matroid_laws.proofs.conflict_laws.conflict_sets_are_minimal.Goals as goal

pub returns : goal.returns
returns c p prime big M e el surplus C conflict = minimal p prime M big e el surplus C conflict
