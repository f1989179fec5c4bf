use Rattle.value_list_laws.proofs.Listed.{of-answer, to-answer}
use Rattle.value_list_laws.proofs.list_laws.answers_give_the_first_list.Goals as goal

pub returns : goal.returns
returns c p prime M list size = (of-answer p prime M list, to-answer p prime M list size)
