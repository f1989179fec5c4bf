use Rattle.std.proofs.Common.{drop, ◌+◌}
use Rattle.cert_text.specs.Contents.{numbered_rows}
use Rattle.cert_text.specs.Texts.{matrix_text}
use Rattle.text_writer.specs.Texts.{PutsUpTo}
use Rattle.cert_text.proofs.lines.put_matrix.Given as goal

abbrev pub invariant-loop-row : goal.invariant-loop-row
invariant-loop-row g l =
    PutsUpTo g.K.Sink l.initial.out l.out (matrix_text l.word 1 (numbered_rows g.F.Field.number l.rows))
    (matrix_text l.word (l.row + 1) (numbered_rows g.F.Field.number (drop l.row l.rows)))
