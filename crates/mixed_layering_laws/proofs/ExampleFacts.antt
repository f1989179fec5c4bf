-- The split entry at the value that makes it zero.
use Rattle.std.proofs.Common.{◌≡◌, ◌+◌, ◌*◌, ◌%◌, ◌<◌, ℕ, zero, suc, Bool, true, false, cond, refl, arith}
use Rattle.residue_theory.proofs.CountLaws.{size-zero}
use Rattle.residue_theory.proofs.SetLaws.{not_true}
use Rattle.residue_theory.specs.Sets.{everything}
use Rattle.residue_theory.specs.Sums.{sum_on}
use Rattle.linear_algebra.specs.Columns.{IsIndependent, IsRank}
use Rattle.linear_algebra_laws.proofs.Ranks.{none_independent}
use Rattle.mixed_matrices.specs.Examples.{split_model}
use Rattle.mixed_matrices.specs.Models.{value}
use Rattle.mixed_pair_laws.proofs.ExampleFacts.{below_one}

one_column : (Y : ℕ → Bool) → IsIndependent 65521 (value split_model (λ i j. 65520)) 1 1 Y → (j : ℕ) → j < 1 → Y j ≡ false
one_column Y ind = below_one (λ j. Y j ≡ false) (not_true (Y 0)
    (λ h. one (ind (λ j. 1) (below_one (λ i. sum_on Y 1 (λ j. 1 * value split_model (λ i j. 65520) i j) % 65521 ≡ 0) (summed (Y 0))) 0
    (omega arith) h)))
  where
    one : suc zero ≡ zero → ⊥
    one q = omega (arith, q)

    summed : (b : Bool) → (0 + cond b 65521 0) % 65521 ≡ 0
    summed true = refl
    summed false = refl

pub zero_entry-rank : IsRank 65521 (value split_model (λ i j. 65520)) 1 1 everything 0
zero_entry-rank = record {
  reached = ((λ j. false), (λ j jl h. refl), none_independent 65521 (value split_model (λ i j. 65520)) 1 1, refl);
  greatest = λ Y within ind. omega (arith, size-zero Y 1 (one_column Y ind));
}
