use Rattle.std.proofs.Common.{◌≡◌, ℕ, true, eqb, ltb, refl, sym, arith}
use Rattle.std.proofs.lemmas.Bool.Decides.{nat_tests}
use Rattle.residue_theory.proofs.SetLaws.{differ}
use Rattle.residue_theory.specs.Sets.{only}
use Rattle.equation_matroid_laws.proofs.Costs.{number-line}
use Rattle.equation_matroid_laws.proofs.ExampleFacts.{number-chosen, number-independent, one-apart, only-choice}
use Rattle.equation_matroid_laws.specs.GreedyChoices.{by_number}
use Rattle.equation_matroid_laws.proofs.examples.choices_at_examples.Goals as goal

pub returns-clause-holds_line : goal.returns-clause-holds_line
returns-clause-holds_line c = number-line

pub returns-clause-fails_line : goal.returns-clause-fails_line
returns-clause-fails_line c = λ line. differ (line.irreflexive 0) refl

pub returns-clause-holds_prefix : goal.returns-clause-holds_prefix
returns-clause-holds_prefix c = record {
  inside = λ _ _ _. refl;
  closed = λ d e _ _ _ first h. at d e first h;
}
  where
    at : (d e : ℕ) → ltb d e ≡ true → eqb e 0 ≡ true → eqb d 0 ≡ true
    at d e l h = grind (arith, nat_tests)

pub returns-clause-fails_prefix : goal.returns-clause-fails_prefix
returns-clause-fails_prefix c = λ P. differ refl (P.closed 0 1 (omega arith) (omega arith) refl refl refl)

pub returns-clause-holds : goal.returns-clause-holds
returns-clause-holds c = number-chosen

pub returns-clause-fails : goal.returns-clause-fails
returns-clause-fails c = λ other. differ refl (sym (only-choice by_number (only 0) (only 1) number-chosen other 0 (omega arith)))

pub returns-clause-holds_independent : goal.returns-clause-holds_independent
returns-clause-holds_independent c = number-independent

pub returns-clause-fails_independent : goal.returns-clause-fails_independent
returns-clause-fails_independent c = λ other. other.passed_over 0 (omega arith) refl refl one-apart
