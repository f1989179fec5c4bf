use Rattle.cert_text.specs.Ranges.{IsCcf}
use Rattle.repair_checker.specs.declared.repair.Level.{Level}
use Rattle.cheapest_repairs.proofs.GrowingLevels.{each-more}
use Rattle.cheapest_repairs.proofs.forms.are_in_form.Goals as goal

pub loop-level-preserved : goal.loop-level-preserved
loop-level-preserved g c = each-more (λ (level : Level g.row.F.Denot). IsCcf g.F.Field.modulus level.ccf) c.args.levels.now c.loop-level.level-index
    c.level-item.result c.loop-level-test.true c.level-item.is c.is_in_form.ensures c.loop-level.invariant
