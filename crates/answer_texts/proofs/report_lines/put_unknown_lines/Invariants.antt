use Rattle.std.proofs.Common.{drop, codes}
use Rattle.text_writer.specs.Texts.{PutsUpTo}
use Rattle.answer_texts.specs.ReportTexts.{name_lines}
use Rattle.answer_texts.proofs.report_lines.put_unknown_lines.Given as goal

abbrev pub invariant-loop-unknown : goal.invariant-loop-unknown
invariant-loop-unknown g l =
    PutsUpTo g.K.Sink l.initial.out l.out (name_lines (codes "undetermined") l.model.unknowns l.unknowns)
    (name_lines (codes "undetermined") l.model.unknowns (drop l.unknown-index l.unknowns))
