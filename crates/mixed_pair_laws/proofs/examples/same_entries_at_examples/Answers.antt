use Rattle.std.proofs.Common.{◌≡◌, ℕ, refl, arith}
use Rattle.mixed_pair_laws.proofs.examples.same_entries_at_examples.Goals as goal

pub returns-clause-holds : goal.returns-clause-holds
returns-clause-holds c = record { rows = refl; columns = refl; constants = λ i j _ _. refl; symbols = λ i j _ _. refl }

pub returns-clause-fails : goal.returns-clause-fails
returns-clause-fails c same = never 1 refl (same.constants 0 0 (omega arith) (omega arith))
  where
    never : (x : ℕ) → x ≡ 1 → x ≡ 2 → ⊥
    never x a b = omega arith

pub returns-clause-holds_for_layers : goal.returns-clause-holds_for_layers
returns-clause-holds_for_layers c = record { q_rows = refl; t_rows = refl; columns = refl; q = λ i j _ _. refl; t = λ i j _ _. refl }

pub returns-clause-fails_for_layers : goal.returns-clause-fails_for_layers
returns-clause-fails_for_layers c same = never 1 refl same.q_rows
  where
    never : (x : ℕ) → x ≡ 1 → x ≡ 0 → ⊥
    never x a b = omega arith
