use Rattle.std.proofs.Common.{◌≡◌, zero, suc, refl, arith, true}
use Rattle.residue_theory.proofs.SetLaws.{differ}
use Rattle.mixed_matrices.specs.Arcs.{IsFromFree, ReachesEnd, ReachesIn, is_free, is_end, has_base, has_match}
use Rattle.mixed_matrices.specs.Examples.{empty_tableau, split_matrix, symbol_triangle, triangle_tableau}
use Rattle.mixed_pair_laws.proofs.ExampleFacts.{triangle-arcs, triangle-leads, triangle-no_end, triangle-no_free}
use Rattle.mixed_pair_laws.proofs.examples.walks_at_examples.Goals as goal

empty-free : is_free empty_tableau 0 ≡ true
unfolding is_free
empty-free = refl

empty-end : is_end 65521 split_matrix empty_tableau 0 ≡ true
unfolding is_end has_base has_match
empty-end = refl

from_free : IsFromFree 65521 split_matrix empty_tableau 0
from_free = (0, omega arith, empty-free, (0, refl))

not_back : ReachesIn 65521 symbol_triangle triangle_tableau 1 0 → ⊥
not_back (zero, same) = absurd (omega (arith, same))
not_back (suc k, (z, zl, _, along)) = let back = triangle-arcs z 0 zl (omega arith) along in absurd (omega (arith, back.1))

no_start : IsFromFree 65521 symbol_triangle triangle_tableau 0 → ⊥
no_start (s, sl, free, _) = differ (triangle-no_free s sl) free

no_end : ReachesEnd 65521 symbol_triangle triangle_tableau 0 → ⊥
no_end (e, el, is_an_end, _) = differ (triangle-no_end e el) is_an_end

pub returns-clause-holds : goal.returns-clause-holds
returns-clause-holds c = (1, (0, omega arith, refl, triangle-leads))

pub returns-clause-fails : goal.returns-clause-fails
returns-clause-fails c = not_back

pub returns-clause-holds_from_free : goal.returns-clause-holds_from_free
returns-clause-holds_from_free c = from_free

pub returns-clause-fails_from_free : goal.returns-clause-fails_from_free
returns-clause-fails_from_free c = no_start

pub returns-clause-holds_to_end : goal.returns-clause-holds_to_end
returns-clause-holds_to_end c = (0, omega arith, empty-end, (0, refl))

pub returns-clause-fails_to_end : goal.returns-clause-fails_to_end
returns-clause-fails_to_end c = no_end

pub returns-clause-holds_of_middle : goal.returns-clause-holds_of_middle
returns-clause-holds_of_middle c = (omega arith, no_start, no_end)

pub returns-clause-fails_of_middle : goal.returns-clause-fails_of_middle
returns-clause-fails_of_middle c = λ middle. middle.1 from_free
