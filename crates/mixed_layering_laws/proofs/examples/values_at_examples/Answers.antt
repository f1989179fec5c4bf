use Rattle.std.proofs.Common.{◌≡◌, ◌+◌, ◌%◌, ℕ, zero, suc, cond, eqb, inl, inr, refl, arith}
use Rattle.mixed_pair_laws.proofs.ExampleFacts.{below_one}
use Rattle.mixed_layering_laws.proofs.examples.values_at_examples.Goals as goal

above_zero : (x : ℕ) → suc x ≡ zero → ⊥
above_zero x q = omega (arith, q)

pub returns-clause-holds : goal.returns-clause-holds
returns-clause-holds c = record {
  unknown = λ i j il jl. below_one (λ j. cond (eqb j 0) 2 65520 % 65521 ≡ 2 % 65521) refl j jl;
  auxiliary = λ i k il kl q. below_one (λ k. (cond (eqb (1 + k) 0) 2 65520 + 1) % 65521 ≡ 0) refl k kl;
}

pub returns-clause-fails : goal.returns-clause-fails
returns-clause-fails c values = above_zero 2 (values.auxiliary 0 0 (omega arith) (omega arith) refl)

pub returns-clause-holds_free : goal.returns-clause-holds_free
returns-clause-holds_free c i k il kl _ q = below_one (λ k. (1 + k) % 65521 ≡ 0 → ⊥) (above_zero 0) k kl q

pub returns-clause-fails_free : goal.returns-clause-fails_free
returns-clause-fails_free c free = free 0 0 (omega arith) (omega arith) refl refl

pub returns-clause-holds_scaled : goal.returns-clause-holds_scaled
returns-clause-holds_scaled c = record { not_zero = λ i il. above_zero 1; symbol = λ i j il jl h. refl }

pub returns-clause-fails_scaled : goal.returns-clause-fails_scaled
returns-clause-fails_scaled c scaled = scaled.not_zero 0 (omega arith) refl

pub returns-clause-holds_small : goal.returns-clause-holds_small
returns-clause-holds_small c = inr refl

pub returns-clause-fails_small : goal.returns-clause-fails_small
returns-clause-fails_small c h = elim h [ inl q ↦ absurd (omega (arith, q)) | inr q ↦ absurd (omega (arith, q)) ]
