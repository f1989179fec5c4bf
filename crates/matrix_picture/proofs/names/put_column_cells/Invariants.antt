use Rattle.std.proofs.Common.{drop}
use Rattle.text_writer.specs.Texts.{PutsUpTo}
use Rattle.matrix_picture.specs.Texts.{column_cells_text}
use Rattle.matrix_picture.proofs.names.put_column_cells.Given as goal

abbrev pub invariant-loop-left : goal.invariant-loop-left
invariant-loop-left g l =
    PutsUpTo g.K.Sink l.initial.out l.out (column_cells_text l.model l.layered l.letter 0 l.columns)
    (column_cells_text l.model l.layered l.letter l.left (drop l.left l.columns))
