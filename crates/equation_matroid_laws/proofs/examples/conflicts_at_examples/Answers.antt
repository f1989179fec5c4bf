use Rattle.std.proofs.Common.{◌≡◌, ℕ, false, refl, arith}
use Rattle.residue_theory.specs.Sets.{everything, only, without}
use Rattle.equation_matroid_laws.proofs.ExampleFacts.{below_three, conflict-tells, ends-circuit, last-surplus, no-rank}
use Rattle.equation_matroid_laws.proofs.ExampleFacts.{one-no_member, same-rank, some-rank, zero-member}
use Rattle.equation_matroid_laws.specs.Conflicts.{IsSurplusAmong}
use Rattle.equation_matroid_laws.specs.Examples.{first_and_last, three_model}
use Rattle.equation_matroid_laws.proofs.examples.conflicts_at_examples.Goals as goal

pub returns-clause-holds_surplus : goal.returns-clause-holds_surplus
returns-clause-holds_surplus c = last-surplus

alone : IsSurplusAmong 65521 three_model (only 2) 2 → ⊥
alone (r, R, S) = clash r (same-rank (only 2) r 1 R (some-rank (only 2) 2 (omega arith) refl)) (same-rank (without (only 2) 2) r 0 S
    (no-rank (without (only 2) 2) (below_three (λ j. without (only 2) 2 j ≡ false) refl refl refl)))
  where
    clash : (r : ℕ) → r ≡ 1 → r ≡ 0 → ⊥
    clash r a b = omega arith

pub returns-clause-fails_surplus : goal.returns-clause-fails_surplus
returns-clause-fails_surplus c = alone

pub returns-clause-holds : goal.returns-clause-holds
returns-clause-holds c = (conflict-tells first_and_last).1 ends-circuit

pub returns-clause-fails : goal.returns-clause-fails
returns-clause-fails c = λ conflict. one-no_member (((conflict-tells everything).0 conflict 1 (omega arith)).0 refl)

pub returns-clause-holds_member : goal.returns-clause-holds_member
returns-clause-holds_member c = zero-member

pub returns-clause-fails_member : goal.returns-clause-fails_member
returns-clause-fails_member c = one-no_member

pub returns-clause-holds_circuit : goal.returns-clause-holds_circuit
returns-clause-holds_circuit c = ends-circuit

pub returns-clause-fails_circuit : goal.returns-clause-fails_circuit
returns-clause-fails_circuit c = λ same. one-no_member ((same 1 (omega arith)).0 refl)
