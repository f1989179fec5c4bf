use Rattle.std.proofs.Common.{refl, arith}
use Rattle.residue_theory.proofs.Primes.{prime_65521}
use Rattle.residue_theory.proofs.SetLaws.{differ}
use Rattle.residue_theory.specs.Sets.{everything, nothing}
use Rattle.mixed_matrices.specs.Examples.{split_matrix, split_model, split_origins}
use Rattle.mixed_matrices.specs.Layerings.{gives_q, has_symbol}
use Rattle.mixed_pair_laws.proofs.ExampleFacts.{split-layered, split-least, split-minimiser, split_model-rank}
use Rattle.mixed_layering_laws.proofs.LayeringRank.{layering-law}
use Rattle.mixed_report_laws.proofs.ExampleRanks.{split_gone-rank, split_narrow-rank}
use Rattle.mixed_report_laws.proofs.Removals.{equation-symbols, unknown-column}
use Rattle.mixed_report_laws.proofs.Tests.{surplus-untouched, undetermined-held}
use Rattle.mixed_report_laws.proofs.examples.split_entry_at_examples.Goals as goal

pub returns-clause-model : goal.returns-clause-model
returns-clause-model c = split_model-rank

pub returns-clause-layered : goal.returns-clause-layered
returns-clause-layered c = layering-law 65521 prime_65521 split_model (gives_q split_model)
    (has_symbol split_model) split_matrix split_origins split-layered (omega arith) 1 split_model-rank

pub returns-clause-without_equation : goal.returns-clause-without_equation
returns-clause-without_equation c = split_gone-rank

pub returns-clause-without_row : goal.returns-clause-without_row
returns-clause-without_row c = equation-symbols 65521 prime_65521 split_model (gives_q split_model)
    (has_symbol split_model) split_matrix split_origins split-layered (omega arith) 0 (omega arith) 0 split_gone-rank

pub returns-clause-without_unknown : goal.returns-clause-without_unknown
returns-clause-without_unknown c = split_narrow-rank

pub returns-clause-without_column : goal.returns-clause-without_column
returns-clause-without_column c = unknown-column 65521 prime_65521 split_model (gives_q split_model)
    (has_symbol split_model) split_matrix split_origins split-layered (omega arith) 0 (omega arith) 0 split_narrow-rank

pub returns-clause-not_surplus : goal.returns-clause-not_surplus
returns-clause-not_surplus c surplus = differ (surplus-untouched 65521 prime_65521 (omega arith) split_model (gives_q split_model)
    (has_symbol split_model) split_matrix split_origins split-layered 0 (omega arith) surplus everything split-minimiser) refl

pub returns-clause-not_undetermined : goal.returns-clause-not_undetermined
returns-clause-not_undetermined c undetermined = differ refl
    (undetermined-held 65521 prime_65521 (omega arith) split_model (gives_q split_model)
    (has_symbol split_model) split_matrix split_origins split-layered 0 (omega arith) undetermined nothing split-least)
