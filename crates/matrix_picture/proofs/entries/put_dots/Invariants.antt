use Rattle.std.proofs.Common.{drop}
use Rattle.text_writer.specs.Texts.{PutsUpTo}
use Rattle.matrix_picture.specs.Texts.{dots_text}
use Rattle.matrix_picture.proofs.entries.put_dots.Given as goal

abbrev pub invariant-loop-left : goal.invariant-loop-left
invariant-loop-left g l =
    PutsUpTo g.K.Sink l.initial.out l.out (dots_text l.ccf l.row l.top 0 l.columns) (dots_text l.ccf l.row l.top l.left (drop l.left l.columns))
