use Rattle.mixed_pair_laws.proofs.SameEntries.{same-layers}
use Rattle.mixed_pair_laws.proofs.structural_rank_laws.same_layers_have_the_same_rank.Goals as goal

pub returns : goal.returns
returns c = same-layers
