use Rattle.std.proofs.Common.{drop}
use Rattle.text_writer.specs.Texts.{PutsUpTo}
use Rattle.matrix_picture.specs.Texts.{row_names_text}
use Rattle.matrix_picture.proofs.names.put_row_names.Given as goal

abbrev pub invariant-loop-top : goal.invariant-loop-top
invariant-loop-top g l =
    PutsUpTo g.K.Sink l.initial.out l.out (row_names_text l.model l.layered l.right 0 l.rows)
    (row_names_text l.model l.layered l.right l.top (drop l.top l.rows))
