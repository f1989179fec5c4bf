use Rattle.std.proofs.Common.{None, sym, arith}
use Rattle.std.proofs.lemmas.Str.Pattern.{strip_prefix_char}
use Rattle.line_lexer.proofs.NumberLaws.{no_minus, no_sign}
use Rattle.line_lexer.proofs.numbers.split_sign.Goals as goal

pub returns-in-None-clause-negative : goal.returns-in-None-clause-negative
returns-in-None-clause-negative c = sym (no_minus c.args.text.now (strip_prefix_char 45 c.args.text.now None c.in_default.ensures.cases (omega arith)))

pub returns-in-None-clause-unsigned : goal.returns-in-None-clause-unsigned
returns-in-None-clause-unsigned c =
    no_sign c.args.text.now
    (strip_prefix_char 45 c.args.text.now None c.in_default.ensures.cases (omega arith))
    (strip_prefix_char 43 c.args.text.now None c.in-None.ensures.cases (omega arith))
