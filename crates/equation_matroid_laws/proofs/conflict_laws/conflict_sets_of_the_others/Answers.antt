use Rattle.equation_matroid_laws.proofs.ConflictSets.{others}
use Rattle.equation_matroid_laws.proofs.conflict_laws.conflict_sets_of_the_others.Goals as goal

pub returns : goal.returns
returns c p prime big M B choice e el out = others p prime M big B choice e el out
