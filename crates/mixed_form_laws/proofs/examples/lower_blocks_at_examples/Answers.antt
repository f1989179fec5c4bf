use Rattle.std.proofs.Common.{arith}
use Rattle.mixed_form_laws.proofs.ExampleFacts.{triangle-block_below, triangle-held, triangle-lower_block, triangle-not_below, triangle-not_held}
use Rattle.mixed_form_laws.proofs.examples.lower_blocks_at_examples.Goals as goal

pub returns-clause-holds : goal.returns-clause-holds
returns-clause-holds c = triangle-held

pub returns-clause-fails : goal.returns-clause-fails
returns-clause-fails c = triangle-not_held

pub returns-clause-holds_below : goal.returns-clause-holds_below
returns-clause-holds_below c = triangle-block_below

pub returns-clause-fails_below : goal.returns-clause-fails_below
returns-clause-fails_below c = triangle-not_below

pub returns-clause-holds_lower : goal.returns-clause-holds_lower
returns-clause-holds_lower c = triangle-lower_block

pub returns-clause-fails_lower : goal.returns-clause-fails_lower
returns-clause-fails_lower c B = triangle-not_below B.below

pub returns-clause-fails_ready : goal.returns-clause-fails_ready
returns-clause-fails_ready c ready = omega (arith, ready 0 (omega arith) triangle-block_below)
