use Rattle.std.proofs.Common.{◌≤◌, refl, sym, arith}
use Rattle.residue_theory.proofs.SetLaws.{differ}
use Rattle.residue_theory.specs.Sets.{nothing, only}
use Rattle.equation_matroid_laws.proofs.ExampleFacts.{cost-cheapest, cost-chosen, kept_zero-repair, only-choice}
use Rattle.equation_matroid_laws.proofs.ExampleFacts.{two-dependent}
use Rattle.equation_matroid_laws.specs.Examples.{rising}
use Rattle.equation_matroid_laws.specs.GreedyChoices.{by_cost, outside}
use Rattle.equation_matroid_laws.proofs.examples.repairs_at_examples.Goals as goal

pub returns-clause-holds : goal.returns-clause-holds
returns-clause-holds c = cost-chosen

pub returns-clause-fails : goal.returns-clause-fails
returns-clause-fails c = λ other. differ refl (sym (only-choice (by_cost rising) (only 0) (only 2) other cost-chosen 0 (omega arith)))

pub returns-clause-holds_repair : goal.returns-clause-holds_repair
returns-clause-holds_repair c = kept_zero-repair

pub returns-clause-fails_repair : goal.returns-clause-fails_repair
returns-clause-fails_repair c = λ R. two-dependent (outside nothing) 0 1 (omega arith) (omega arith) (omega arith) refl refl R

pub returns-clause-holds_cheapest : goal.returns-clause-holds_cheapest
returns-clause-holds_cheapest c = cost-cheapest

pub returns-clause-fails_cheapest : goal.returns-clause-fails_cheapest
returns-clause-fails_cheapest c = λ other. let l : 3 ≤ 1 = other.cheapest (outside (only 2)) cost-cheapest.repair in omega arith
