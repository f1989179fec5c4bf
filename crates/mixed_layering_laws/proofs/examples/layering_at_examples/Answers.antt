use Rattle.std.proofs.Common.{refl, arith}
use Rattle.residue_theory.proofs.Primes.{prime_65521}
use Rattle.mixed_matrices.specs.Examples.{split_matrix, split_model, split_origins}
use Rattle.mixed_matrices.specs.Layerings.{gives_q, has_symbol}
use Rattle.mixed_pair_laws.proofs.ExampleFacts.{split-layered, split_model-rank}
use Rattle.mixed_layering_laws.proofs.ExampleFacts.{zero_entry-rank}
use Rattle.mixed_layering_laws.proofs.LayeringRank.{layering-law, values-rank}
use Rattle.mixed_layering_laws.proofs.examples.layering_at_examples.Goals as goal

pub returns-clause-model : goal.returns-clause-model
returns-clause-model c = split_model-rank

pub returns-clause-layered : goal.returns-clause-layered
returns-clause-layered c = layering-law 65521 prime_65521 split_model (gives_q split_model)
    (has_symbol split_model) split_matrix split_origins split-layered (omega arith) 1 split_model-rank

pub returns-clause-zero_entry : goal.returns-clause-zero_entry
returns-clause-zero_entry c = zero_entry-rank

pub returns-clause-layered_zero : goal.returns-clause-layered_zero
returns-clause-layered_zero c = values-rank 65521 prime_65521 split_model (gives_q split_model)
    (has_symbol split_model) split_matrix split_origins split-layered
    (λ i j. 65520) (λ i j. 65520) (record { unknown = λ i j il jl. refl; auxiliary = λ i k il kl q. refl }) 0 zero_entry-rank
