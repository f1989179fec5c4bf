use Rattle.cert_text.specs.Contents.{numbered}
use Rattle.cert_checker.specs.Units.{IsClear}
use Rattle.cert_checker.proofs.units.is_clear.Given as goal

abbrev pub invariant-loop-entry : goal.invariant-loop-entry
invariant-loop-entry g l = IsClear l.rows l.marks l.i (numbered g.F.Field.number l.row) l.entry-index
