use Rattle.equation_matroid_laws.proofs.Repairs.{choice-reaches}
use Rattle.equation_matroid_laws.proofs.greedy_laws.greedy_choices_reach_the_rank.Goals as goal

pub returns : goal.returns
returns c p prime big M before line X K choice P start = choice-reaches p prime M big before line X K choice P start
