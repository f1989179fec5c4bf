use Rattle.std.proofs.Common.{map}
use Rattle.cert_text.specs.Contents.{numbered}
use Rattle.block_solver.specs.Numbers.{AreSymbolItems}
use Rattle.block_solver.proofs.numbers.symbol_row.Given as goal

abbrev pub invariant-loop-place : goal.invariant-loop-place
invariant-loop-place g l =
    let number = g.F.Field.number in
    AreSymbolItems g.F.Field.modulus l.unknowns l.first l.place l.columns (map number l.values) (numbered number l.row.items)
