use Rattle.mixed_form_laws.proofs.ExampleFacts.{triangle-canonical, turned-not_canonical, whole-not_canonical}
use Rattle.mixed_form_laws.proofs.examples.canonical_parts_at_examples.Goals as goal

pub returns-clause-holds : goal.returns-clause-holds
returns-clause-holds c = triangle-canonical

pub returns-clause-fails_turned : goal.returns-clause-fails_turned
returns-clause-fails_turned c = turned-not_canonical

pub returns-clause-fails_whole : goal.returns-clause-fails_whole
returns-clause-fails_whole c = whole-not_canonical
