use Rattle.value_list_laws.proofs.Listed.{one-answer}
use Rattle.value_list_laws.proofs.list_laws.there_is_one_answer.Goals as goal

pub returns : goal.returns
returns c p prime M = one-answer p prime M
