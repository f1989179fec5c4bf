use Rattle.std.proofs.Common.{rules, sym, ◌∙◌}
use Rattle.line_lexer.proofs.TokenLaws.{text-whole, text-sign, text-bad}
use Rattle.line_lexer.proofs.cuts.clean_text.Goals as goal

pub returns-in_default : goal.returns-in_default
returns-in_default c = text-whole c.args.line.now (search rules)

pub returns-then-line-end-eq35 : goal.returns-then-line-end-eq35
returns-then-line-end-eq35 c = text-sign c.args.line.now c.in-Some.end (sym c.first_odd.ensures ∙ c.in-Some.is) (search rules)

pub returns-else-line-end-eq35 : goal.returns-else-line-end-eq35
returns-else-line-end-eq35 c = text-bad c.args.line.now c.in-Some.end (sym c.first_odd.ensures ∙ c.in-Some.is) (search rules)
