use Rattle.std.proofs.Common.{sym}
use Rattle.line_lexer.proofs.NumberLaws.{parse-numeral}
use Rattle.line_lexer.proofs.numbers.numeral.Goals as goal

pub unreachable-requires : goal.unreachable-requires
unreachable-requires c =
    let read = parse-numeral c.args.text.now c.parse.result c.parse.ensures.value.0 (sym c.if-not-is_numeral.ensures) in
    let f : ⊥ = cc in f
