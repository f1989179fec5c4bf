use Rattle.std.proofs.Common.{refl, arith}
use Rattle.residue_theory.proofs.Primes.{prime_65521}
use Rattle.mixed_matrices.specs.Layerings.{gives_q, has_symbol}
use Rattle.mixed_report_laws.proofs.ExampleParts.{wide-canonical, wide-layered}
use Rattle.mixed_report_laws.proofs.Tests.{held-undetermined}
use Rattle.mixed_report_laws.specs.Examples.{plain_origins, wide_model, wide_symbols}
use Rattle.mixed_report_laws.proofs.examples.undetermined_unknowns_at_examples.Goals as goal

pub returns-clause-layered : goal.returns-clause-layered
returns-clause-layered c = wide-layered

pub returns-clause-first : goal.returns-clause-first
returns-clause-first c = held-undetermined 65521 prime_65521 (omega arith) wide_model (gives_q wide_model)
    (has_symbol wide_model) wide_symbols plain_origins wide-layered 0 (omega arith) ((wide-canonical.first 0 (omega arith)).0 refl)

pub returns-clause-second : goal.returns-clause-second
returns-clause-second c = held-undetermined 65521 prime_65521 (omega arith) wide_model (gives_q wide_model)
    (has_symbol wide_model) wide_symbols plain_origins wide-layered 1 (omega arith) ((wide-canonical.first 1 (omega arith)).0 refl)
