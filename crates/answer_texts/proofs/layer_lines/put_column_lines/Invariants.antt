use Rattle.std.proofs.Common.{drop, ◌+◌}
use Rattle.text_writer.specs.Texts.{PutsUpTo}
use Rattle.answer_texts.specs.LayerTexts.{column_lines}
use Rattle.answer_texts.proofs.layer_lines.put_column_lines.Given as goal

abbrev pub invariant-loop-column : goal.invariant-loop-column
invariant-loop-column g l =
    PutsUpTo g.K.Sink l.initial.out l.out (column_lines l.model 1 l.layered.column_origins)
    (column_lines l.model (l.column + 1) (drop l.column l.layered.column_origins))
