use Rattle.std.proofs.Common.{◌≡◌, length}
use Rattle.edit_desk.specs.Answers.{models_of}
use Rattle.edit_desk.specs.Desks.{empty_models}
use Rattle.edit_desk.proofs.desk.Desk.open.Given as goal

abbrev pub invariant-loop : goal.invariant-loop
invariant-loop g l = record {
  models : models_of l.held.items ≡ empty_models l.counter;
  count : length l.held.items ≡ l.counter;
}
