use Rattle.std.proofs.Common.{◌≡◌, ◌+◌, ◌<◌, ◌≢◌, ◌%◌, ℕ, zero, suc, refl, arith}
use Rattle.residue_theory.proofs.Primes.{prime_65521}
use Rattle.mixed_matrices.specs.Examples.{stacked_inverse, stacked_matrix, stacked_model, stacked_origins, stacked_parts}
use Rattle.mixed_matrices.specs.Examples.{stacked_tableau, stacked_transform, triangle_below, triangle_lower}
use Rattle.mixed_matrices.specs.Layerings.{gives_q, has_symbol}
use Rattle.mixed_form_laws.proofs.StackedExample.{stacked-canonical, stacked-is_tableau, stacked-layered, stacked-rules_kept}
use Rattle.mixed_report_laws.proofs.ExampleRanks.{stacked_first-rank, stacked_second-rank}
use Rattle.mixed_report_laws.proofs.Removals.{equation-constants, equation-symbols}
use Rattle.mixed_report_laws.proofs.Tails.{stays-used, untouched-last}
use Rattle.mixed_report_laws.proofs.Tests.{surplus-rho, surplus-untouched, undetermined-held}
use Rattle.mixed_report_laws.proofs.examples.stacked_removals_at_examples.Goals as goal

bad : suc (suc zero) ≡ suc (suc (suc zero)) → ⊥
bad q = omega (arith, q)

bad_first : {x : ℕ} → suc x ≡ zero → ⊥
bad_first q = omega (arith, q)

pub returns-clause-without_constants : goal.returns-clause-without_constants
returns-clause-without_constants c = stacked_second-rank

pub returns-clause-without_q_row : goal.returns-clause-without_q_row
returns-clause-without_q_row c = equation-constants 65521 prime_65521 stacked_model (gives_q stacked_model)
    (has_symbol stacked_model) stacked_matrix stacked_origins stacked-layered (omega arith) 0 (omega arith) refl 1 stacked_second-rank

pub returns-clause-without_split : goal.returns-clause-without_split
returns-clause-without_split c = stacked_first-rank

pub returns-clause-without_t_row : goal.returns-clause-without_t_row
returns-clause-without_t_row c = equation-symbols 65521 prime_65521 stacked_model (gives_q stacked_model)
    (has_symbol stacked_model) stacked_matrix stacked_origins stacked-layered (omega arith) 0 (omega arith) 1 stacked_first-rank

pub returns-clause-constants_not_surplus : goal.returns-clause-constants_not_surplus
returns-clause-constants_not_surplus c surplus =
    unused (stays-used 65521 prime_65521 stacked_matrix stacked_transform stacked_inverse stacked_tableau
    stacked-is_tableau stacked_parts triangle_below triangle_lower stacked-rules_kept 0 (omega arith)
    (surplus-rho 65521 prime_65521 (omega arith) stacked_model (gives_q stacked_model) (has_symbol stacked_model)
    stacked_matrix stacked_origins stacked-layered 0 (omega arith) refl surplus))
  where
    -- no row stands last
    unused : (k : ℕ) × (k < 2) × (k + 1 ≡ 3) × (stacked_transform k 0 % 65521 ≢ 0) → ⊥
    unused (k, kl, last, ne) = omega (arith, kl, last)

pub returns-clause-split_not_surplus : goal.returns-clause-split_not_surplus
returns-clause-split_not_surplus c surplus =
    bad (untouched-last 65521 prime_65521 stacked_matrix stacked_transform stacked_inverse stacked_tableau
    stacked-is_tableau stacked_parts triangle_below triangle_lower stacked-rules_kept 0 (omega arith)
    (surplus-untouched 65521 prime_65521 (omega arith) stacked_model (gives_q stacked_model) (has_symbol stacked_model)
    stacked_matrix stacked_origins stacked-layered 0 (omega arith) surplus))

pub returns-clause-first_not_undetermined : goal.returns-clause-first_not_undetermined
returns-clause-first_not_undetermined c undetermined = bad_first
    ((stacked-canonical.first 0 (omega arith)).1 (undetermined-held 65521 prime_65521 (omega arith) stacked_model (gives_q stacked_model)
    (has_symbol stacked_model) stacked_matrix stacked_origins stacked-layered 0 (omega arith) undetermined))

pub returns-clause-second_not_undetermined : goal.returns-clause-second_not_undetermined
returns-clause-second_not_undetermined c undetermined = bad_first
    ((stacked-canonical.first 1 (omega arith)).1 (undetermined-held 65521 prime_65521 (omega arith) stacked_model (gives_q stacked_model)
    (has_symbol stacked_model) stacked_matrix stacked_origins stacked-layered 1 (omega arith) undetermined))
