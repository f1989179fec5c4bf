use Rattle.std.proofs.Common.{◌≡◌, take}
use Rattle.std.specs.List.{All}
use Rattle.mixed_model.specs.Models.{mixed_matrix_of}
use Rattle.cert_checker.specs.Answers.{IsRightFor}
use Rattle.restricted_models.specs.Restrictions.{restricted}
use Rattle.repair_checker.specs.Costs.{all_costing}
use Rattle.repair_checker.specs.Rules.{level_costs}
use Rattle.cheapest_repairs.proofs.levels.levels_of.Given as goal

abbrev pub invariant-loop-cost : goal.invariant-loop-cost
invariant-loop-cost g l = record {
  costs : level_costs l.levels.items ≡ take l.cost-index l.cost-items;
  forms : All (λ level. IsRightFor g.F.Field.modulus (mixed_matrix_of (restricted l.model (all_costing l.costs level.cost))) level.ccf) l.levels.items;
}
