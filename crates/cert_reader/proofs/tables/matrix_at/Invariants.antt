use Rattle.std.proofs.Common.{◌≡◌, ◌+◌, ◌-◌}
use Rattle.cert_text.specs.Contents.{numbered_rows}
use Rattle.cert_reader.specs.LineReading.{entries_line_at}
use Rattle.cert_reader.specs.CertReading.{rows_at}
use Rattle.cert_reader.proofs.Looping.{with_front}
use Rattle.cert_reader.proofs.tables.matrix_at.Given as goal

abbrev pub invariant-loop-row : goal.invariant-loop-row
invariant-loop-row g l =
    with_front (numbered_rows g.F.Field.number l.rows.items) (rows_at (entries_line_at g.F.Field.modulus l.word l.n)
    (l.count - l.row) (l.row + 1) (l.line + l.row) l.rest)
    ≡ rows_at (entries_line_at g.F.Field.modulus l.word l.n) l.count 1 l.line l.bytes
