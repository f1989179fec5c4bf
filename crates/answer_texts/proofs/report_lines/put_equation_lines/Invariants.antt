use Rattle.std.proofs.Common.{drop, codes}
use Rattle.text_writer.specs.Texts.{PutsUpTo}
use Rattle.answer_texts.specs.ReportTexts.{name_lines}
use Rattle.answer_texts.proofs.report_lines.put_equation_lines.Given as goal

abbrev pub invariant-loop-equation : goal.invariant-loop-equation
invariant-loop-equation g l =
    PutsUpTo g.K.Sink l.initial.out l.out (name_lines (codes "surplus") l.model.equations l.equations)
    (name_lines (codes "surplus") l.model.equations (drop l.equation-index l.equations))
