use Rattle.std.proofs.Common.{ap}
use Rattle.text_writer.proofs.Putting.{loop_begins, loop_goes_on, puts_is}
use Rattle.repair_checker.specs.declared.repair.Level.{Level}
use Rattle.repair_texts.specs.RepairTexts.{level_text, levels_text}
use Rattle.repair_texts.proofs.Pieces.{levels-left}
use Rattle.repair_texts.proofs.repair_lines.put_levels.Goals as goal

pub loop-level-init : goal.loop-level-init
loop-level-init g c = loop_begins (levels_text c.args.levels.now)

pub loop-level-preserved : goal.loop-level-preserved
loop-level-preserved g c = loop_goes_on (levels-left c.args.levels.now c.loop-level.level-index c.level-item.result c.loop-level-test.true)
    c.loop-level.invariant (puts_is (ap (λ (level : Level g.row.F.Denot). level_text level) c.level-item.is) c.put_level.ensures)
