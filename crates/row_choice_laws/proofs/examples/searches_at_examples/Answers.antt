use Rattle.row_choice_laws.proofs.ExampleFacts.{in-circuit, nothing-not_reached, one-in_vain}
use Rattle.row_choice_laws.proofs.examples.searches_at_examples.Goals as goal

pub returns-clause-holds : goal.returns-clause-holds
returns-clause-holds c = one-in_vain

pub returns-clause-fails : goal.returns-clause-fails
returns-clause-fails c = nothing-not_reached

pub returns-clause-circuit : goal.returns-clause-circuit
returns-clause-circuit c = in-circuit
