use Rattle.mixed_pair_laws.proofs.BestPairs.{Optimal, optimal}
use Rattle.mixed_pair_laws.proofs.pair_laws.some_pair_reaches_the_bound.Goals as goal

pub returns : goal.returns
returns c p prime L = let O : Optimal p L = optimal p prime L in (O.I, O.J, O.mate, O.X, O.r, O.pair, O.rank, O.equal)
