use Rattle.std.proofs.Common.{◌≡◌, ℕ, inl, inr, refl, arith}
use Rattle.residue_theory.proofs.Primes.{prime_65521}
use Rattle.mixed_layering_laws.specs.LayeredValues.{IsOneOrTwo}
use Rattle.value_list_laws.proofs.ExampleFacts.{model-rank, one-fails, one-rank, only-here, two-first}
use Rattle.value_list_laws.proofs.Lists.{first-greedy, greedy-first}
use Rattle.value_list_laws.proofs.Places.{none-before}
use Rattle.mixed_matrices.specs.Models.{value}
use Rattle.value_list_laws.specs.Examples.{always, minus_model}
use Rattle.value_list_laws.specs.ValueLists.{IsFirstList}
use Rattle.value_list_laws.proofs.examples.lists_at_examples.Goals as goal

one-not_first : IsFirstList 65521 minus_model (always 1) → ⊥
one-not_first F = one-fails (always 1) refl F.reaches

pub returns-clause-holds_list : goal.returns-clause-holds_list
returns-clause-holds_list c i j at = inr refl

pub returns-clause-fails_list : goal.returns-clause-fails_list
returns-clause-fails_list c small = never (small 0 0 only-here)
  where
    never : IsOneOrTwo 3 → ⊥
    never (inl q) = omega (arith, q)
    never (inr q) = omega (arith, q)

pub returns-clause-holds_before : goal.returns-clause-holds_before
returns-clause-holds_before c = (0, 0, only-here, omega arith, λ k l at h. absurd (none-before k l h))

pub returns-clause-fails_before : goal.returns-clause-fails_before
returns-clause-fails_before c (i, j, at, lower, _) = omega (arith, lower)

pub returns-clause-holds : goal.returns-clause-holds
returns-clause-holds c = two-first

pub returns-clause-fails : goal.returns-clause-fails
returns-clause-fails c = one-not_first

pub returns-clause-holds_greedy : goal.returns-clause-holds_greedy
returns-clause-holds_greedy c = first-greedy 65521 prime_65521 minus_model (always 2) two-first

pub returns-clause-fails_greedy : goal.returns-clause-fails_greedy
returns-clause-fails_greedy c G = one-not_first (greedy-first 65521 prime_65521 minus_model (always 1) G)

pub returns-clause-holds_witness : goal.returns-clause-holds_witness
returns-clause-holds_witness c = (
  (λ k l at h. absurd (none-before k l h)),
  (1, model-rank, one-rank (value minus_model (always 7)) (never 6 refl)),
)
  where
    never : (x : ℕ) → x ≡ 6 → x ≡ 0 → ⊥
    never x a b = omega arith

pub returns-clause-fails_witness : goal.returns-clause-fails_witness
returns-clause-fails_witness c (_, reaches) = one-fails (always 1) refl reaches
