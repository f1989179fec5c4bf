use Rattle.equation_matroid_laws.proofs.Repairs.{kept-independent, kept-rank, level-reached}
use Rattle.equation_matroid_laws.proofs.greedy_laws.kept_equations_reach_each_level.Goals as goal

pub returns : goal.returns
returns c p prime big M cost K choice = (
  kept-independent p prime M big cost K choice,
  kept-rank p prime M big cost K choice,
  level-reached p prime M big cost K choice,
)
