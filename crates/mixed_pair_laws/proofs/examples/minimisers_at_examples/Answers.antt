use Rattle.mixed_pair_laws.proofs.ExampleFacts.{split-least, split-minimiser, split-no_minimiser}
use Rattle.mixed_pair_laws.proofs.examples.minimisers_at_examples.Goals as goal

pub returns-clause-holds : goal.returns-clause-holds
returns-clause-holds c = split-minimiser

pub returns-clause-holds_of_none : goal.returns-clause-holds_of_none
returns-clause-holds_of_none c = split-least

pub returns-clause-fails : goal.returns-clause-fails
returns-clause-fails c = split-no_minimiser
