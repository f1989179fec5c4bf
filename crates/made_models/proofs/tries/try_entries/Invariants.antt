use Rattle.std.proofs.Common.{◌≡◌, ◌+◌, ◌*◌}
use Rattle.made_models.specs.Tries.{IsTried, last_after}
use Rattle.made_models.proofs.tries.try_entries.Given as goal

abbrev pub invariant-loop-trial : goal.invariant-loop-trial
invariant-loop-trial g l = record {
  tried : IsTried l.size (3 * l.i + l._trial) l.model;
  draws : l.draws ≡ last_after l.size (6 * l.i + 2 * l._trial);
}
