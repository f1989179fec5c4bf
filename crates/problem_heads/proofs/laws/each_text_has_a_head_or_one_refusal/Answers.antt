use Rattle.problem_heads.proofs.HeadTexts.{head-answered, head-refused_once, head-unrefused}
use Rattle.problem_heads.proofs.laws.each_text_has_a_head_or_one_refusal.Goals as goal

pub returns-clause-each : goal.returns-clause-each
returns-clause-each c = head-answered

pub returns-clause-apart : goal.returns-clause-apart
returns-clause-apart c = head-unrefused

pub returns-clause-one : goal.returns-clause-one
returns-clause-one c = head-refused_once
