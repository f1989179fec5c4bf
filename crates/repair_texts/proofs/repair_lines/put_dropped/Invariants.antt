use Rattle.std.proofs.Common.{drop}
use Rattle.text_writer.specs.Texts.{PutsUpTo}
use Rattle.repair_texts.specs.RepairTexts.{drop_lines}
use Rattle.repair_texts.proofs.repair_lines.put_dropped.Given as goal

abbrev pub invariant-loop-equation : goal.invariant-loop-equation
invariant-loop-equation g l = PutsUpTo g.K.Sink l.initial.out l.out (drop_lines l.model.equations l.kept 0 l.costs)
    (drop_lines l.model.equations l.kept l.equation (drop l.equation l.costs))
