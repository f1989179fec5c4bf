use Rattle.std.proofs.Common.{drop}
use Rattle.text_writer.specs.Texts.{PutsUpTo}
use Rattle.repair_texts.specs.RepairTexts.{levels_text}
use Rattle.repair_texts.proofs.repair_lines.put_levels.Given as goal

abbrev pub invariant-loop-level : goal.invariant-loop-level
invariant-loop-level g l = PutsUpTo g.K.Sink l.initial.out l.out (levels_text l.levels) (levels_text (drop l.level-index l.levels))
