use Rattle.std.proofs.Common.{drop}
use Rattle.text_writer.specs.Texts.{PutsUpTo}
use Rattle.study_texts.specs.SolutionTexts.{value_lines}
use Rattle.study_texts.proofs.solution_lines.put_values.Given as goal

abbrev pub invariant-loop-unknown : goal.invariant-loop-unknown
invariant-loop-unknown g l =
    PutsUpTo g.K.Sink l.initial.out l.out (value_lines g.F.Field.number l.model.unknowns 0 l.values)
    (value_lines g.F.Field.number l.model.unknowns l.unknown (drop l.unknown l.values))
