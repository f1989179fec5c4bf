use Rattle.equation_matroid_laws.proofs.ConflictSets.{repair-meets}
use Rattle.equation_matroid_laws.proofs.conflict_laws.each_repair_meets_each_conflict_set.Goals as goal

pub returns : goal.returns
returns c p prime big M e el surplus C D conflict repair = repair-meets p prime M big e el surplus C D conflict repair
