use Rattle.std.proofs.Common.{◌≡◌, map}
use Rattle.cert_text.specs.Contents.{numbered_rows}
use Rattle.block_solver.specs.Numbers.{AreSymbolRows, symbols_above}
use Rattle.block_solver.proofs.numbers.symbol_rows.Given as goal

abbrev pub invariant-loop-columns : goal.invariant-loop-columns
invariant-loop-columns g l =
    let number = g.F.Field.number in
    record {
      first : l.first ≡ symbols_above l.t l.unknowns l.columns-index;
      rows : AreSymbolRows g.F.Field.modulus l.unknowns l.columns-index l.t (map number l.values) (numbered_rows number l.rows.items);
    }
