use Rattle.std.proofs.Common.{length, subst, sym, ◌∙◌}
use Rattle.cert_text.specs.Ranges.{AreRising}
use Rattle.repair_checker.proofs.CostLists.{all-rising}
use Rattle.repair_checker.specs.Costs.{all_costing}
use Rattle.cheapest_repairs.proofs.levels.level_of.Goals as goal

pub form_of-requires : goal.form_of-requires
form_of-requires g c =
    subst (AreRising (length c.args.model.now.equations)) (sym (c.deref.ensures.value ∙ c.in_ok-equations.ensures))
    (subst (λ n. AreRising n (all_costing c.args.costs.now c.args.cost)) c.requires (all-rising c.args.costs.now c.args.cost))
