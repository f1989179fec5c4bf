use Rattle.std.proofs.Common.{subst, sym}
use Rattle.mixed_model.specs.Models.{mixed_matrix_of}
use Rattle.cert_checker.specs.Answers.{IsRightFor}
use Rattle.restricted_models.specs.Restrictions.{restricted}
use Rattle.repair_checker.specs.Costs.{all_costing}
use Rattle.repair_checker.specs.declared.repair.Level.{Level}
use Rattle.cheapest_repairs.proofs.GrowingLevels.{all-more, costs-more}
use Rattle.cheapest_repairs.proofs.levels.levels_of.Goals as goal

pub loop-cost-preserved : goal.loop-cost-preserved
loop-cost-preserved g c =
    let model = c.args.model.now in
    let costs = c.args.costs.now in
    let levels = c.loop-cost.levels.items in
    let now = c.push.new.self.items in
    let level = c.in_ok-level_of.field-0 in
    let told = c.in_ok-level_of.ensures in
    record {
      costs = costs-more levels now level c.in_ok-push.ensures.items c.deref-cost-items.result.now c.loop-cost.cost-index c.loop-cost-test.true
          c.loop-cost.invariant.costs told.cost;
      forms = all-more levels now level c.in_ok-push.ensures.items
          (λ (one : Level g.row.F.Denot). IsRightFor g.F.Field.modulus (mixed_matrix_of (restricted model (all_costing costs one.cost))) one.ccf)
          c.loop-cost.invariant.forms
          (subst (λ cost. IsRightFor g.F.Field.modulus (mixed_matrix_of (restricted model (all_costing costs cost))) level.ccf) (sym told.cost) told.form);
    }
