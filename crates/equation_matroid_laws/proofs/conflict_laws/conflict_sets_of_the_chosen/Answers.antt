use Rattle.equation_matroid_laws.proofs.ConflictSets.{held_ones}
use Rattle.equation_matroid_laws.proofs.conflict_laws.conflict_sets_of_the_chosen.Goals as goal

pub returns : goal.returns
returns c p prime big M B choice e el held surplus = held_ones p prime M big B choice e el held surplus
