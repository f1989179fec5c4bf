use Rattle.mixed_form_laws.proofs.ExampleFacts.{triangle-ordered}
use Rattle.mixed_form_laws.proofs.examples.orders_at_examples.Goals as goal

pub returns-clause-holds : goal.returns-clause-holds
returns-clause-holds c = triangle-ordered
