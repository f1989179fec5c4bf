use Rattle.equation_matroid_laws.proofs.WholeModels.{among-surplus, surplus-among}
use Rattle.equation_matroid_laws.proofs.conflict_laws.surplus_among_all_is_surplus.Goals as goal

pub returns : goal.returns
returns c p prime M e el = (among-surplus p prime M e el, surplus-among p prime M e el)
