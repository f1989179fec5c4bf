use Rattle.std.proofs.Common.{◌≡◌, drop}
use Rattle.cert_text.specs.Contents.{numbered}
use Rattle.cert_text.specs.Readings.{entry_at}
use Rattle.cert_checker.proofs.units.is_one.Given as goal

abbrev pub invariant-loop-entry : goal.invariant-loop-entry
invariant-loop-entry g l =
    let row = numbered g.F.Field.number l.row in
    entry_at row l.column ≡ entry_at (drop l.entry-index row) l.column
