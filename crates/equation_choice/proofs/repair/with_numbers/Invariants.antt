use Rattle.equation_choice.specs.Prices.{ArePriced}
use Rattle.equation_choice.proofs.repair.with_numbers.Given as goal

abbrev pub invariant-loop-equation : goal.invariant-loop-equation
invariant-loop-equation l = ArePriced l.costs l.equation l.list.items
