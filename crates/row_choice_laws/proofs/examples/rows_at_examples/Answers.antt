use Rattle.row_choice_laws.proofs.ExampleFacts.{bare-one, bare-zero, leads-one_zero, leads-zero, open-split, open-zero}
use Rattle.row_choice_laws.proofs.examples.rows_at_examples.Goals as goal

pub returns-clause-holds_bare : goal.returns-clause-holds_bare
returns-clause-holds_bare c = bare-one

pub returns-clause-fails_bare : goal.returns-clause-fails_bare
returns-clause-fails_bare c = bare-zero

pub returns-clause-holds_open : goal.returns-clause-holds_open
returns-clause-holds_open c = open-split

pub returns-clause-fails_open : goal.returns-clause-fails_open
returns-clause-fails_open c = open-zero

pub returns-clause-holds_leads : goal.returns-clause-holds_leads
returns-clause-holds_leads c = leads-zero

pub returns-clause-fails_leads : goal.returns-clause-fails_leads
returns-clause-fails_leads c = leads-one_zero
