use Rattle.std.proofs.Common.{map}
use Rattle.cert_text.specs.Contents.{numbered_rows}
use Rattle.block_solver.proofs.RowPlaces.{AreSumsBegun}
use Rattle.block_solver.proofs.rows.row_sums.Given as goal

abbrev pub invariant-loop-row : goal.invariant-loop-row
invariant-loop-row g l =
    let number = g.F.Field.number in
    AreSumsBegun g.F.Field.modulus (numbered_rows number l.rows) (map number l.x) (map number l.sums.items) l.row-index
