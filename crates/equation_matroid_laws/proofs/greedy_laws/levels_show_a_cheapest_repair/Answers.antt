use Rattle.equation_matroid_laws.proofs.Repairs.{levels-cheapest}
use Rattle.equation_matroid_laws.proofs.greedy_laws.levels_show_a_cheapest_repair.Goals as goal

pub returns : goal.returns
returns c p prime big M cost K ind levels = levels-cheapest p prime M big cost K ind levels
