use Rattle.std.proofs.Common.{◌≡◌, ◌*◌}
use Rattle.made_models.specs.Tries.{IsTried, last_after}
use Rattle.made_models.proofs.made.made_model.Given as goal

abbrev pub invariant-loop-i : goal.invariant-loop-i
invariant-loop-i g l = record {
  tried : IsTried l.size (3 * l.i) l.model;
  draws : l.draws ≡ last_after l.size (6 * l.i);
}
