use Rattle.std.proofs.Common.{◌≡◌, ◌<◌, ℕ, refl, arith}
use Rattle.residue_theory.proofs.Primes.{prime_65521}
use Rattle.residue_theory.proofs.SetLaws.{differ}
use Rattle.closed_sets.proofs.RuleLaws.{rules-listing}
use Rattle.mixed_matrices.specs.Arcs.{IsOfMiddle, leads_to, is_free, is_end}
use Rattle.mixed_matrices.specs.CheckerRules.{block_of, in_first, in_last}
use Rattle.mixed_matrices.specs.Examples.{symbol_triangle, triangle_lower, triangle_parts, triangle_tableau, turned_parts}
use Rattle.mixed_pair_laws.proofs.ExampleFacts.{triangle-has_tableau, triangle-leads, triangle-no_end, triangle-no_free}
use Rattle.mixed_form_laws.proofs.Canonical.{checked-canonical}
use Rattle.mixed_form_laws.proofs.ExampleFacts.{tall-rules_kept, triangle-rows, triangle-rules_kept, turned-not_canonical}
use Rattle.mixed_form_laws.proofs.examples.rules_at_examples.Goals as goal

pub returns-clause-holds : goal.returns-clause-holds
returns-clause-holds c = triangle-rules_kept

pub returns-clause-fails_turned : goal.returns-clause-fails_turned
returns-clause-fails_turned c below lower K =
    turned-not_canonical (checked-canonical 65521 prime_65521 symbol_triangle triangle_tableau triangle-has_tableau
    turned_parts below lower K)

pub returns-clause-holds_for_last : goal.returns-clause-holds_for_last
returns-clause-holds_for_last c = tall-rules_kept

pub returns-clause-holds_for_rows : goal.returns-clause-holds_for_rows
returns-clause-holds_for_rows c = triangle-rows

pub returns-clause-fails_for_rows : goal.returns-clause-fails_for_rows
returns-clause-fails_for_rows c rows = never 1 refl (rows.matched 0 (omega arith) refl)
  where
    never : (x : ℕ) → x ≡ 1 → x ≡ 2 → ⊥
    never x a b = omega arith

pub returns-clause-holds_for_listing : goal.returns-clause-holds_for_listing
returns-clause-holds_for_listing c = rules-listing (leads_to 65521 symbol_triangle triangle_tableau) 2
    (is_free triangle_tableau) (is_end 65521 symbol_triangle triangle_tableau)
    (in_first triangle_parts) (in_last triangle_parts) (block_of triangle_parts) 2 triangle_lower triangle-rules_kept.rules

-- each column is of the middle
of_middle : (x : ℕ) → x < 2 → IsOfMiddle 65521 symbol_triangle triangle_tableau x
of_middle x xl = (xl, (λ (s, sl, free, _). differ (triangle-no_free s sl) free), λ (e, el, is_an_end, _). differ (triangle-no_end e el) is_an_end)

pub returns-clause-fails_for_listing : goal.returns-clause-fails_for_listing
returns-clause-fails_for_listing c listing =
    absurd (omega (
      arith,
      listing.lower_before 0 1 (of_middle 0 (omega arith)) (of_middle 1 (omega arith))
          (1, (0, omega arith, refl, triangle-leads)),
    ))
