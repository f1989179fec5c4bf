use Rattle.std.proofs.lemmas.Result.{IfOk-weaker}
use Rattle.repair_checker.proofs.Cheapest.{cheapest}
use Rattle.repair_checker.proofs.checking.check_repair.Goals as goal

pub returns-clause-cheapest : goal.returns-clause-cheapest
returns-clause-cheapest g c = IfOk-weaker c.try_rules.result _ _
    (λ _ keeps. cheapest g.F.Field.modulus g.met.F.Field.prime g.met.F.Field.odd c.args.model.now c.args.costs.now c.args.repair.now
    c.requires.costs.count c.requires.kept keeps) c.try_rules.ensures.keeps
