use Rattle.line_reader.proofs.Rules.{keeps-unbroken, first_broken-one}
use Rattle.line_reader.proofs.laws.a_text_has_one_first_broken_rule.Goals as goal

pub returns-clause-none : goal.returns-clause-none
returns-clause-none c = keeps-unbroken

pub returns-clause-one : goal.returns-clause-one
returns-clause-one c = first_broken-one
