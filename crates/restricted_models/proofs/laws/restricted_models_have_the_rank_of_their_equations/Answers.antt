use Rattle.restricted_models.proofs.Ranks.{ranks-from, ranks-to}
use Rattle.restricted_models.proofs.laws.restricted_models_have_the_rank_of_their_equations.Goals as goal

pub returns : goal.returns
returns c p model list rising r = (ranks-to p model list rising r, ranks-from p model list rising r)
