use Rattle.std.proofs.Common.{◌≡◌, ℕ, zero, suc, false, refl, arith}
use Rattle.residue_theory.proofs.Primes.{prime_65521}
use Rattle.linear_algebra.specs.Products.{identity}
use Rattle.mixed_matrices.specs.Examples.{tall_model, tall_parts, tall_symbols, tall_tableau}
use Rattle.mixed_matrices.specs.Layerings.{gives_q, has_symbol}
use Rattle.mixed_form_laws.proofs.ExampleFacts.{tall-rules_kept}
use Rattle.mixed_report_laws.proofs.ExampleParts.{tall_constants-is_tableau, tall_constants-kept, tall_constants-layered}
use Rattle.mixed_report_laws.proofs.ExampleParts.{tall_symbols-is_tableau, tall_symbols-layered}
use Rattle.mixed_report_laws.proofs.Tails.{last-untouched, used-stays}
use Rattle.mixed_report_laws.proofs.Tests.{rho-surplus, untouched-surplus}
use Rattle.mixed_report_laws.specs.Examples.{plain_origins, tall_constant_parts, tall_constant_tableau, tall_constants}
use Rattle.mixed_report_laws.specs.Examples.{tall_inverse, tall_symbol_model, tall_transform}
use Rattle.mixed_report_laws.proofs.examples.surplus_equations_at_examples.Goals as goal

above_zero : (x : ℕ) → suc x ≡ zero → ⊥
above_zero x q = omega (arith, q)

pub returns-clause-layered_symbols : goal.returns-clause-layered_symbols
returns-clause-layered_symbols c = tall_symbols-layered

pub returns-clause-symbols : goal.returns-clause-symbols
returns-clause-symbols c = untouched-surplus 65521 prime_65521 (omega arith) tall_symbol_model (gives_q tall_symbol_model)
    (has_symbol tall_symbol_model) tall_symbols plain_origins tall_symbols-layered 0 (omega arith)
    (last-untouched 65521 prime_65521 tall_symbols identity identity tall_tableau tall_symbols-is_tableau tall_parts (λ k l. false)
    (λ l k. false) tall-rules_kept 0 (omega arith) refl)

pub returns-clause-layered_constants : goal.returns-clause-layered_constants
returns-clause-layered_constants c = tall_constants-layered

pub returns-clause-first_constants : goal.returns-clause-first_constants
returns-clause-first_constants c = rho-surplus 65521 prime_65521 (omega arith) tall_model (gives_q tall_model)
    (has_symbol tall_model) tall_constants plain_origins tall_constants-layered 0 (omega arith) refl
    (used-stays 65521 prime_65521 tall_constants tall_transform tall_inverse tall_constant_tableau tall_constants-is_tableau tall_constant_parts
    (λ k l. false) (λ l k. false) tall_constants-kept 0 (omega arith) (1, omega arith, refl, above_zero 65519))

pub returns-clause-second_constants : goal.returns-clause-second_constants
returns-clause-second_constants c = rho-surplus 65521 prime_65521 (omega arith) tall_model (gives_q tall_model)
    (has_symbol tall_model) tall_constants plain_origins tall_constants-layered 1 (omega arith) refl
    (used-stays 65521 prime_65521 tall_constants tall_transform tall_inverse tall_constant_tableau tall_constants-is_tableau tall_constant_parts
    (λ k l. false) (λ l k. false) tall_constants-kept 1 (omega arith) (1, omega arith, refl, above_zero 0))
