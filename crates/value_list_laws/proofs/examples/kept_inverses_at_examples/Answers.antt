use Rattle.std.proofs.Common.{◌≡◌, ◌%◌, ℕ, zero, suc, false, refl, arith}
use Rattle.residue_theory.proofs.SetLaws.{differ}
use Rattle.mixed_pair_laws.proofs.ExampleFacts.{below_one}
use Rattle.linear_algebra.specs.Products.{identity, product}
use Rattle.mixed_matrices.specs.Models.{value}
use Rattle.value_list_laws.proofs.ExampleFacts.{at_only}
use Rattle.value_list_laws.specs.Examples.{always, minus_model}
use Rattle.value_list_laws.specs.FixedSymbols.{IsSymbolPlace, place}
use Rattle.value_list_laws.proofs.examples.kept_inverses_at_examples.Goals as goal

-- no symbol stands beside the one place
none-beside : (i j : ℕ) → IsSymbolPlace minus_model i j → place 0 0 i j ≡ false → ⊥
none-beside = at_only (λ i j. place 0 0 i j ≡ false → ⊥) (λ h. differ h refl)

above_zero : suc zero ≡ zero → ⊥
above_zero q = omega (arith, q)

pub returns-clause-holds : goal.returns-clause-holds
returns-clause-holds c = record {
  inverse = λ i j il jl. below_one (λ x. product 1 (value minus_model (always 2)) (always 1) x j % 65521 ≡ identity x j % 65521)
      (below_one (λ y. product 1 (value minus_model (always 2)) (always 1) 0 y % 65521 ≡ identity 0 y % 65521) refl j jl) i il;
  change = refl;
  singular = refl;
  outside = refl;
  apart = λ _ _ h. absurd (differ refl h);
  none = λ a b at _ h. absurd (none-beside a b at h);
  closed = λ a b at _ h. absurd (none-beside a b at h);
}

pub returns-clause-fails : goal.returns-clause-fails
returns-clause-fails c S = differ S.outside refl

pub returns-clause-holds_path : goal.returns-clause-holds_path
returns-clause-holds_path c = above_zero

pub returns-clause-fails_path : goal.returns-clause-fails_path
returns-clause-fails_path c (k, l, at, beside, _, _) = none-beside k l at beside
