use Rattle.std.proofs.Common.{◌≡◌, []}
use Rattle.made_models.specs.MadeModels.{numbered_names}
use Rattle.made_models.specs.Tries.{IsWithoutEntries}
use Rattle.made_models.proofs.names.add_equations.Given as goal

abbrev pub invariant-loop-place : goal.invariant-loop-place
invariant-loop-place g l = record {
  equations : l.model.equations ≡ numbered_names 101 l.place;
  unknowns : l.model.unknowns ≡ [];
  blank : IsWithoutEntries l.model;
}
