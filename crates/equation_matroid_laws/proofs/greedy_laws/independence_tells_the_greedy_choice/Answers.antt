use Rattle.equation_matroid_laws.proofs.Repairs.{choice-tells, tells-choice}
use Rattle.equation_matroid_laws.proofs.greedy_laws.independence_tells_the_greedy_choice.Goals as goal

pub returns : goal.returns
returns c p prime big M before line X K inside =
    (choice-tells p prime M big before line X K inside, tells-choice p prime M big before line X K inside)
