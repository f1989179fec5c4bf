use Rattle.std.proofs.Common.{◌≡◌, ◌*◌, subst, arith}
use Rattle.made_models.specs.Tries.{IsTried}
use Rattle.made_models.proofs.TryLaws.{tried-made}
use Rattle.made_models.proofs.made.made_model.Goals as goal

pub returns-clause-made : goal.returns-clause-made
returns-clause-made g c =
    let all : c.loop-i.i ≡ c.args.size = omega arith in
    tried-made c.args.size c.loop-i.model (subst (λ n. IsTried c.args.size (3 * n) c.loop-i.model) all c.loop-i.invariant.tried)
