use Rattle.std.proofs.Common.{◌≡◌, subst, sym}
use Rattle.std.specs.List.{All}
use Rattle.mixed_model.specs.Models.{mixed_matrix_of}
use Rattle.cert_checker.specs.Answers.{IsRightFor}
use Rattle.restricted_models.specs.Restrictions.{restricted}
use Rattle.repair_checker.specs.Costs.{AreLevels, all_costing}
use Rattle.repair_checker.specs.Rules.{cost_of_others, level_costs}
use Rattle.repair_checker.specs.declared.repair.Level.{Level}
use Rattle.cheapest_repairs.proofs.ShownRanks.{keeps-rules}
use Rattle.cheapest_repairs.proofs.repairing.repair_keeping.Goals as goal

pub returns-clause-rules : goal.returns-clause-rules
returns-clause-rules g c =
    let p = g.F.Field.modulus in
    let model = c.args.model.now in
    let costs = c.args.costs.now in
    let listed = sym c.from_vec-2.ensures in
    keeps-rules p g.met.F.Field.prime g.met.F.Field.odd model costs c.args.kept.items c.requires.costs.count c.requires.rising c.requires.choice
    (record { kept = c.from_vec.result; cost = c.cost_of_others-cost.result; kept_ccf = c.in_ok-kept_ccf.kept_ccf; levels = c.from_vec-2.result })
    c.from_vec.ensures
    (subst (λ levels. AreLevels costs (level_costs levels)) listed c.in_ok-levels.ensures.levels)
    (subst (All (λ (level : Level g.row.F.Denot). IsRightFor p (mixed_matrix_of (restricted model (all_costing costs level.cost))) level.ccf)) listed
    c.in_ok-levels.ensures.forms)
    (subst (λ list. IsRightFor p (mixed_matrix_of (restricted model list)) c.in_ok-kept_ccf.kept_ccf) c.deref-2.ensures.value c.in_ok-kept_ccf.ensures)
    (subst (λ list. c.cost_of_others-cost.result ≡ cost_of_others costs list) c.deref.ensures.value c.cost_of_others-cost.ensures)
