use Rattle.linear_algebra.specs.Products.{identity}
use Rattle.cert_text.specs.Contents.{numbered_rows}
use Rattle.cert_text.specs.Printing.{PrintsMatrix}
use Rattle.cert_checker.proofs.matrices.unit_rows.Given as goal

abbrev pub invariant-loop-row : goal.invariant-loop-row
invariant-loop-row g l = PrintsMatrix g.F.Field.modulus l.row l.n identity (numbered_rows g.F.Field.number l.rows.items)
