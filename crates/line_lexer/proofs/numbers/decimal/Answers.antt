use Rattle.std.proofs.Common.{sym, arith}
use Rattle.line_lexer.proofs.NumberLaws.{Decimal-of}
use Rattle.line_lexer.proofs.numbers.decimal.Goals as goal

pub overflow_mul-result : goal.overflow_mul-result
overflow_mul-result c =
    let decimal = Decimal-of c.args.whole.now c.args.decimals.now c.in_ok-whole.whole c.in_ok-decimals.decimals
    c.pow-denominator.result (sym c.in_ok-whole.ensures) (sym c.in_ok-decimals.ensures) c.pow-denominator.ensures
    c.if-whole-decimals-gt-MOST_DIGITS.false in
    omega (arith, decimal.small)

pub overflow_add-result : goal.overflow_add-result
overflow_add-result c =
    let decimal = Decimal-of c.args.whole.now c.args.decimals.now c.in_ok-whole.whole c.in_ok-decimals.decimals
    c.pow-denominator.result (sym c.in_ok-whole.ensures) (sym c.in_ok-decimals.ensures) c.pow-denominator.ensures
    c.if-whole-decimals-gt-MOST_DIGITS.false in
    omega (arith, decimal.small)

pub returns : goal.returns
returns c =
    let decimal = Decimal-of c.args.whole.now c.args.decimals.now c.in_ok-whole.whole c.in_ok-decimals.decimals
    c.pow-denominator.result (sym c.in_ok-whole.ensures) (sym c.in_ok-decimals.ensures) c.pow-denominator.ensures
    c.if-whole-decimals-gt-MOST_DIGITS.false in
    sym decimal.is
