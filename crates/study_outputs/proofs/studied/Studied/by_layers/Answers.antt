use Rattle.std.proofs.Common.{refl}
use Rattle.study_outputs.proofs.Solved.{solved-for}
use Rattle.study_outputs.proofs.studied.Studied.by_layers.Goals as goal

pub returns : goal.returns
returns g c = λ kind text gives. (
  refl,
  solved-for g.F.Field.number g.F.Field.modulus kind text c.args.model c.in_ok-layered.layered c.args.problem.now c.in_ok-solving.solving
      c.in_ok-layered.ensures c.is_whole.ensures c.in_ok-solving.ensures gives,
)
