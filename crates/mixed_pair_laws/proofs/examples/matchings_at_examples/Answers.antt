use Rattle.std.proofs.Common.{refl, arith}
use Rattle.residue_theory.proofs.SetLaws.{differ}
use Rattle.mixed_pair_laws.proofs.ExampleFacts.{triangle-matching}
use Rattle.mixed_pair_laws.proofs.examples.matchings_at_examples.Goals as goal

pub returns-clause-holds : goal.returns-clause-holds
returns-clause-holds c = triangle-matching

pub returns-clause-fails : goal.returns-clause-fails
returns-clause-fails c m = differ refl (m.symbol 1 (omega arith) refl)
