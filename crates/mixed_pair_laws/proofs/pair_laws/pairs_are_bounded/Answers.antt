use Rattle.mixed_pair_laws.proofs.PairBounds.{bound}
use Rattle.mixed_pair_laws.proofs.pair_laws.pairs_are_bounded.Goals as goal

pub returns : goal.returns
returns c p L I J mate pair X r R = bound p L I J mate X r pair R
