use Rattle.std.proofs.Common.{arith}
use Rattle.mixed_pair_laws.proofs.BestPairs.{Optimal, optimal}
use Rattle.mixed_pair_laws.proofs.PairBounds.{bound}
use Rattle.mixed_pair_laws.proofs.PairRank.{reached-rank}
use Rattle.mixed_pair_laws.proofs.structural_rank_laws.best_pairs_show_the_rank.Goals as goal

pub returns : goal.returns
returns c p prime L I J mate pair best = let O : Optimal p L = optimal p prime L in
    reached-rank p prime L I J mate O.X O.r pair O.rank (omega (arith, O.equal, best O.I O.J O.mate O.pair, bound p L I J mate O.X O.r pair O.rank))
