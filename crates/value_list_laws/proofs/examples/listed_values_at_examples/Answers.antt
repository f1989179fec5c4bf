use Rattle.std.proofs.Common.{◌≡◌, ◌<◌, ◌∷◌, [], slice_index_or, ℕ, refl, arith}
use Rattle.residue_theory.proofs.Primes.{prime_65521}
use Rattle.mixed_pair_laws.proofs.ExampleFacts.{below_one}
use Rattle.value_list_laws.proofs.ExampleFacts.{at_only, one-fails, two-first}
use Rattle.value_list_laws.proofs.Listed.{first-moved, to-answer}
use Rattle.value_list_laws.specs.Examples.{always, minus_model}
use Rattle.value_list_laws.specs.FixedSymbols.{IsSymbolPlace}
use Rattle.value_list_laws.specs.ListedValues.{IsFirstReachingList, IsReachingList, values_of}
use Rattle.value_list_laws.proofs.examples.listed_values_at_examples.Goals as goal

two-there : (i j : ℕ) → IsSymbolPlace minus_model i j → 2 ≡ values_of minus_model (2 ∷ []) i j
two-there = at_only (λ i j. 2 ≡ values_of minus_model (2 ∷ []) i j) refl

one-reaching : IsReachingList 65521 minus_model (1 ∷ []) → ⊥
one-reaching R = one-fails (values_of minus_model (1 ∷ [])) refl R.reaches

two-answer : IsFirstReachingList 65521 minus_model (2 ∷ [])
two-answer = to-answer 65521 prime_65521 minus_model (2 ∷ []) refl
    (first-moved 65521 prime_65521 minus_model (always 2) (values_of minus_model (2 ∷ [])) two-there two-first)

pub returns-clause-count : goal.returns-clause-count
returns-clause-count c = refl

pub returns-clause-holds_reaching : goal.returns-clause-holds_reaching
returns-clause-holds_reaching c = two-answer.reaching

pub returns-clause-fails_reaching : goal.returns-clause-fails_reaching
returns-clause-fails_reaching c = one-reaching

pub returns-clause-holds_before : goal.returns-clause-holds_before
returns-clause-holds_before c = (0, omega arith, omega arith, λ g l. absurd (omega arith))

pub returns-clause-fails_before : goal.returns-clause-fails_before
returns-clause-fails_before c (h, l, lower, _) = never h l lower
  where
    never : (h : ℕ) → h < 1 → slice_index_or (2 ∷ []) h 0 < slice_index_or (1 ∷ []) h 0 → ⊥
    never h l lower = below_one (λ k. slice_index_or (2 ∷ []) k 0 < slice_index_or (1 ∷ []) k 0 → ⊥) no h l lower
      where
        no : 2 < 1 → ⊥
        no q = omega arith

pub returns-clause-holds : goal.returns-clause-holds
returns-clause-holds c = two-answer

pub returns-clause-fails : goal.returns-clause-fails
returns-clause-fails c A = one-reaching A.reaching
