use Rattle.equation_matroid_laws.proofs.Repairs.{kept-independent, level-reached, levels-cheapest}
use Rattle.equation_matroid_laws.proofs.greedy_laws.greedy_choices_leave_a_cheapest_repair.Goals as goal

pub returns : goal.returns
returns c p prime big M cost K choice = levels-cheapest p prime M big cost K (kept-independent p prime M big cost K choice)
    (λ e _ _. level-reached p prime M big cost K choice (cost e))
