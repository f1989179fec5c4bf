use Rattle.std.proofs.Common.{◌≡◌, take}
use Rattle.row_entries.specs.Rows.{items, placed}
use Rattle.cert_text.specs.Contents.{numbered}
use Rattle.cert_checker.proofs.matrices.entries_of.Given as goal

abbrev pub invariant-loop-entry : goal.invariant-loop-entry
invariant-loop-entry g l =
    numbered g.F.Field.number l.entries.items ≡ placed (items g.F.Field.number (take l.entry-index l.row))
