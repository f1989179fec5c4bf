use Rattle.cheapest_repairs.proofs.ProblemCosts.{problem-costs}
use Rattle.cheapest_repairs.proofs.laws.costs_of_a_problem_are_costs.Goals as goal

pub returns : goal.returns
returns c = problem-costs
