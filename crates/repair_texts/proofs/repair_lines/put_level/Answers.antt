use Rattle.std.proofs.Common.{ap}
use Rattle.text_writer.proofs.Putting.{puts_is, puts_then}
use Rattle.repair_texts.specs.RepairTexts.{level_line}
use Rattle.repair_texts.proofs.repair_lines.put_level.Goals as goal

pub returns : goal.returns
returns g c = puts_then (puts_is (ap (level_line c.args.level.now.cost) c.rank.ensures.rank) c.put_level_line.ensures) c.put.ensures
