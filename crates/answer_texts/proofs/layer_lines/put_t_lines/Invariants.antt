use Rattle.std.proofs.Common.{drop}
use Rattle.text_writer.specs.Texts.{PutsUpTo}
use Rattle.answer_texts.specs.LayerTexts.{named_row_lines, t_line}
use Rattle.answer_texts.proofs.layer_lines.put_t_lines.Given as goal

abbrev pub invariant-loop-row : goal.invariant-loop-row
invariant-loop-row g l =
    PutsUpTo g.K.Sink l.initial.out l.out (named_row_lines t_line l.model.equations l.layered.t_origins 0 l.layered.t.rows)
    (named_row_lines t_line l.model.equations l.layered.t_origins l.row (drop l.row l.layered.t.rows))
