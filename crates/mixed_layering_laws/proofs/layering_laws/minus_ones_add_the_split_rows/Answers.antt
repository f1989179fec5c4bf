use Rattle.mixed_layering_laws.proofs.LayeringRank.{rank-values, values-rank}
use Rattle.mixed_layering_laws.proofs.layering_laws.minus_ones_add_the_split_rows.Goals as goal

pub returns : goal.returns
returns c p prime M A D L O lay v w values r = (values-rank p prime M A D L O lay v w values r, rank-values p prime M A D L O lay v w values r)
