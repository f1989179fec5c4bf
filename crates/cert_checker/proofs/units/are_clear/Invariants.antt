use Rattle.std.proofs.Common.{length}
use Rattle.cert_text.specs.Contents.{numbered_rows}
use Rattle.cert_checker.specs.Units.{AreClear}
use Rattle.cert_checker.proofs.units.are_clear.Given as goal

abbrev pub invariant-loop-i : goal.invariant-loop-i
invariant-loop-i g l = AreClear (length l.p) l.marks (numbered_rows g.F.Field.number l.p) l.i
