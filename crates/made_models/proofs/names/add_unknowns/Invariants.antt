use Rattle.std.proofs.Common.{◌≡◌}
use Rattle.made_models.specs.MadeModels.{numbered_names}
use Rattle.made_models.proofs.names.add_unknowns.Given as goal

abbrev pub invariant-loop-place : goal.invariant-loop-place
invariant-loop-place g l = record {
  unknowns : l.model.unknowns ≡ numbered_names 120 l.place;
  equations : l.model.equations ≡ l.fn.model.equations;
  rows : l.model.rows ≡ l.fn.model.rows;
}
