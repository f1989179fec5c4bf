use Rattle.std.proofs.Common.{◌≡◌, ◌+◌, ◌-◌}
use Rattle.cert_reader.specs.LineReading.{columns_line_at}
use Rattle.cert_reader.specs.CertReading.{rows_at}
use Rattle.cert_reader.proofs.Looping.{with_front}
use Rattle.cert_reader.proofs.tables.pattern_at.Given as goal

abbrev pub invariant-loop-row : goal.invariant-loop-row
invariant-loop-row l = with_front l.rows.items (rows_at (columns_line_at l.word l.n) (l.count - l.row) (l.row + 1)
    (l.line + l.row) l.rest) ≡ rows_at (columns_line_at l.word l.n) l.count 1 l.line l.bytes
