use Rattle.mixed_form_laws.proofs.LooseExample.{loose-canonical, loose-minimiser, loose-not_whole, loose-rules_kept}
use Rattle.mixed_form_laws.proofs.examples.loose_symbols_at_examples.Goals as goal

pub returns-clause-holds : goal.returns-clause-holds
returns-clause-holds c = loose-minimiser

pub returns-clause-canonical : goal.returns-clause-canonical
returns-clause-canonical c = loose-canonical

pub returns-clause-fails : goal.returns-clause-fails
returns-clause-fails c = loose-not_whole

pub returns-clause-kept : goal.returns-clause-kept
returns-clause-kept c = loose-rules_kept
