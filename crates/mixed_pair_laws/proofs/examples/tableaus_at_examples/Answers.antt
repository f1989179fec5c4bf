use Rattle.std.proofs.Common.{◌≡◌, ℕ, refl, arith}
use Rattle.mixed_pair_laws.proofs.ExampleFacts.{split-has_tableau, split-is_tableau}
use Rattle.mixed_pair_laws.proofs.examples.tableaus_at_examples.Goals as goal

pub returns-clause-holds : goal.returns-clause-holds
returns-clause-holds c = split-is_tableau

pub returns-clause-fails : goal.returns-clause-fails
returns-clause-fails c tab = never 2 refl (tab.inverse 0 0 (omega arith) (omega arith))
  where
    never : (x : ℕ) → x ≡ 2 → x ≡ 1 → ⊥
    never x a b = omega arith

pub returns-clause-holds_without : goal.returns-clause-holds_without
returns-clause-holds_without c = split-has_tableau

pub returns-clause-fails_without : goal.returns-clause-fails_without
returns-clause-fails_without c tab = never 0 refl (tab.base.one 0 (omega arith) refl)
  where
    never : (x : ℕ) → x ≡ 0 → x ≡ 1 → ⊥
    never x a b = omega arith
