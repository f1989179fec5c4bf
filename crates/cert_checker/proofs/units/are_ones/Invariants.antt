use Rattle.cert_text.specs.Contents.{numbered_rows}
use Rattle.cert_checker.specs.Units.{AreOnes}
use Rattle.cert_checker.proofs.units.are_ones.Given as goal

abbrev pub invariant-loop-item : goal.invariant-loop-item
invariant-loop-item g l = AreOnes (numbered_rows g.F.Field.number l.p) l.base l.item-index
