use Rattle.std.proofs.Common.{◌∙◌, refl, sym}
use Rattle.residue_theory.proofs.SetLaws.{differ}
use Rattle.repair_checker.proofs.Levels.{refuted, tested}
use Rattle.repair_checker.proofs.costs.are_levels.Goals as goal
use Rattle.repair_checker.proofs.costs.are_levels.Goals.{else-are_falling, then-are_falling}

pub returns-then-each_has_level : goal.returns-then-each_has_level
returns-then-each_has_level g c = elim c.if-are_falling.branch [
  | then-are_falling w ↦ tested c.args.costs.now c.args.levels.now w.each_has_level.result c.each_is_cost.result
      w.each_has_level.ensures c.each_is_cost.ensures c.are_falling.result c.are_falling.ensures
      w.if-are_falling.true (sym w.value-is ∙ c.if-each_has_level.true)
  | else-are_falling w ↦ absurd (differ w.if-are_falling.false (sym w.value-is ∙ c.if-each_has_level.true))
]

pub returns-else-each_has_level : goal.returns-else-each_has_level
returns-else-each_has_level g c = elim c.if-are_falling.branch [
  | then-are_falling w ↦ refuted c.args.costs.now c.args.levels.now _ _ w.each_has_level.ensures refl
      c.are_falling.result c.if-are_falling.value c.are_falling.ensures c.if-each_has_level.false
      (λ each _. differ (sym w.value-is ∙ c.if-each_has_level.false) each)
  | else-are_falling w ↦ refuted c.args.costs.now c.args.levels.now _ _ refl refl
      c.are_falling.result c.if-are_falling.value c.are_falling.ensures c.if-each_has_level.false
      (λ _ falls. differ w.if-are_falling.false falls)
]
