use Rattle.std.proofs.Common.{◌+◌, ◌*◌, drop, length, map, slice_index}
use Rattle.cert_text.specs.Contents.{numbered}
use Rattle.cert_text.specs.Readings.{entry_at}
use Rattle.cert_checker.proofs.EntrySteps.{IsLeft}
use Rattle.cert_checker.proofs.value_rows.add_entries.Given as goal

abbrev pub invariant-loop-entry : goal.invariant-loop-entry
invariant-loop-entry g l =
    let number = g.F.Field.number in
    let entries = numbered number l.entries in
    IsLeft g.F.Field.modulus (length l.fn.row) (number l.factor) (map number l.row) (drop l.entry-index entries)
    (λ j. slice_index (map number l.fn.row) j + number l.factor * entry_at entries j)
