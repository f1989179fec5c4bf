use Rattle.std.proofs.Common.{arith}
use Rattle.mixed_matrices.specs.Examples.{cancelling_model, split_model}
use Rattle.mixed_matrices.specs.Models.{value}
use Rattle.mixed_pair_laws.proofs.ExampleFacts.{cancelling-rank, split_model-rank}
use Rattle.mixed_pair_laws.proofs.PairRank.{greatest-unique}
use Rattle.mixed_pair_laws.proofs.examples.structural_ranks_at_examples.Goals as goal

pub returns-clause-holds : goal.returns-clause-holds
returns-clause-holds c = split_model-rank

pub returns-clause-fails : goal.returns-clause-fails
returns-clause-fails c none = omega (arith, greatest-unique 65521 1 1 (value split_model) 0 1 none split_model-rank)

pub returns-clause-holds_for_constants : goal.returns-clause-holds_for_constants
returns-clause-holds_for_constants c = cancelling-rank

pub returns-clause-fails_for_constants : goal.returns-clause-fails_for_constants
returns-clause-fails_for_constants c two = omega (arith, greatest-unique 65521 2 2 (value cancelling_model) 1 2 cancelling-rank two)
