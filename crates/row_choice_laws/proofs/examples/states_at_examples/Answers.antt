use Rattle.row_choice_laws.proofs.ExampleFacts.{both-not_kept, first-not_joining, split-joining, tall-joining}
use Rattle.row_choice_laws.proofs.ExampleFacts.{tall-kept, unmatched-not_joining}
use Rattle.row_choice_laws.proofs.examples.states_at_examples.Goals as goal

pub returns-clause-holds_kept : goal.returns-clause-holds_kept
returns-clause-holds_kept c = tall-kept

pub returns-clause-fails_kept : goal.returns-clause-fails_kept
returns-clause-fails_kept c = both-not_kept

pub returns-clause-holds_joining : goal.returns-clause-holds_joining
returns-clause-holds_joining c = tall-joining

pub returns-clause-fails_joining : goal.returns-clause-fails_joining
returns-clause-fails_joining c = first-not_joining

pub returns-clause-holds_split : goal.returns-clause-holds_split
returns-clause-holds_split c = split-joining

pub returns-clause-fails_split : goal.returns-clause-fails_split
returns-clause-fails_split c = unmatched-not_joining
