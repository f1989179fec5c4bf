use Rattle.mixed_layering_laws.proofs.LayeringRank.{model_rank}
use Rattle.mixed_layering_laws.proofs.layering_laws.layered_matrices_show_the_rank.Goals as goal

pub returns : goal.returns
returns c p prime big M L O lay t T = model_rank p prime big M L O lay t T
