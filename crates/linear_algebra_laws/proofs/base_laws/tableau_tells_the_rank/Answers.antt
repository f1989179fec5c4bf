use Rattle.linear_algebra_laws.proofs.Tableaus.{tableau-rank}
use Rattle.linear_algebra_laws.proofs.base_laws.tableau_tells_the_rank.Goals as goal

pub returns : goal.returns
returns c = tableau-rank
