use Rattle.std.proofs.Common.{length, subst, sym, ◌∙◌}
use Rattle.cert_text.specs.Ranges.{AreRising}
use Rattle.repair_checker.proofs.CostLists.{all-rising}
use Rattle.repair_checker.specs.Costs.{all_costing}
use Rattle.repair_checker.proofs.checking.shows_level.Goals as goal

pub shows_rank-requires : goal.shows_rank-requires
shows_rank-requires g c =
    subst (AreRising (length c.args.model.now.equations)) (sym (c.deref.ensures.value ∙ c.in_ok-equations.ensures))
    (subst (λ n. AreRising n (all_costing c.args.costs.now c.args.level.now.cost)) c.requires.costs.count
    (all-rising c.args.costs.now c.args.level.now.cost))
