use Rattle.problem_heads.proofs.Parting.{head-lines, text-lines, text-whole}
use Rattle.problem_heads.proofs.laws.a_text_is_its_head_and_the_models_part.Goals as goal

pub returns-clause-whole : goal.returns-clause-whole
returns-clause-whole c = text-whole

pub returns-clause-lines : goal.returns-clause-lines
returns-clause-lines c = text-lines

pub returns-clause-first : goal.returns-clause-first
returns-clause-first c = head-lines
