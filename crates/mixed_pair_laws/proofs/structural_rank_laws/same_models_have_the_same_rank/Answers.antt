use Rattle.mixed_pair_laws.proofs.SameEntries.{same-model}
use Rattle.mixed_pair_laws.proofs.structural_rank_laws.same_models_have_the_same_rank.Goals as goal

pub returns : goal.returns
returns c = same-model
