use Rattle.std.proofs.Common.{drop}
use Rattle.text_writer.specs.Texts.{PutsUpTo}
use Rattle.matrix_picture.specs.Texts.{rows_text}
use Rattle.matrix_picture.proofs.entries.put_rows.Given as goal

abbrev pub invariant-loop-top : goal.invariant-loop-top
invariant-loop-top g l =
    PutsUpTo g.K.Sink l.initial.out l.out (rows_text l.model l.layered l.ccf l.columns 0 l.rows)
    (rows_text l.model l.layered l.ccf l.columns l.top (drop l.top l.rows))
