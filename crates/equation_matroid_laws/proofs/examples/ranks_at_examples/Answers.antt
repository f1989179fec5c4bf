use Rattle.std.proofs.Common.{◌≡◌, ◌≤◌, ◌+◌, ◌*◌, ◌%◌, ◌∙◌, ℕ, zero, suc, Bool, refl, ap, arith}
use Rattle.residue_theory.proofs.Primes.{prime_65521}
use Rattle.residue_theory.specs.Sets.{everything, only}
use Rattle.residue_theory.specs.Sums.{size_on}
use Rattle.linear_algebra_laws.proofs.Ranks.{rank-unique}
use Rattle.mixed_matrices.specs.Models.{value}
use Rattle.mixed_matrices.specs.Removals.{mixed_part}
use Rattle.linear_algebra_laws.proofs.RankLaws.{rank_of-independent}
use Rattle.linear_algebra.specs.Columns.{IsIndependent}
use Rattle.equation_matroid_laws.proofs.ExampleFacts.{at_most_one, one-independent, same-rank, some-rank, two-dependent}
use Rattle.equation_matroid_laws.proofs.RowRanks.{independent-free}
use Rattle.equation_matroid_laws.specs.EquationRanks.{AreIndependent, IsRankAt}
use Rattle.equation_matroid_laws.specs.Examples.{three_model}
use Rattle.equation_matroid_laws.proofs.examples.ranks_at_examples.Goals as goal

one : (x : ℕ) → x ≡ 1 → x ≡ 2 → ⊥
one x p q = omega arith

all_at : IsRankAt 65521 three_model (λ i j. 0) everything 1
all_at = rank_of-independent 65521 (value (mixed_part everything everything three_model) (λ i j. 0)) 3 1 everything column
  where
    column : IsIndependent 65521 (value (mixed_part everything everything three_model) (λ i j. 0)) 3 1 everything
    column c z zero l h = ap (λ s. s % 65521) (let e : c 0 ≡ 0 + c 0 * 1 = omega arith in e) ∙ z 0 (omega arith)
    column c z (suc j) l h = absurd (omega arith)

pub returns-clause-holds : goal.returns-clause-holds
returns-clause-holds c = some-rank everything 0 (omega arith) refl

pub returns-clause-fails : goal.returns-clause-fails
returns-clause-fails c = λ R. one 1 refl (same-rank everything 1 2 (some-rank everything 0 (omega arith) refl) R)

pub returns-clause-holds_at : goal.returns-clause-holds_at
returns-clause-holds_at c = all_at

pub returns-clause-fails_at : goal.returns-clause-fails_at
returns-clause-fails_at c = λ R. one 1 refl
    (rank-unique 65521 (value (mixed_part everything everything three_model) (λ i j. 0)) 3 1 everything 1 2 all_at R)

pub returns-clause-holds_independent : goal.returns-clause-holds_independent
returns-clause-holds_independent c = one-independent 1 (omega arith)

pub returns-clause-fails_independent : goal.returns-clause-fails_independent
returns-clause-fails_independent c = λ R. two-dependent everything 0 1 (omega arith) (omega arith) (omega arith) refl refl R

pub returns-clause-holds_largest : goal.returns-clause-holds_largest
returns-clause-holds_largest c = record {
  reached = (only 1, (λ j _ h. refl), one-independent 1 (omega arith), refl);
  greatest = λ Y _ ind. same_or_less Y ind;
}
  where
    same_or_less : (Y : ℕ → Bool) → AreIndependent 65521 three_model Y → size_on Y 3 ≤ 1
    same_or_less Y ind = at_most_one Y (independent-free 65521 prime_65521 three_model Y ind)

pub returns-clause-fails_largest : goal.returns-clause-fails_largest
returns-clause-fails_largest c = λ L. let l : 1 ≤ 0 = L.greatest (only 1) (λ _ _ _. refl) (one-independent 1 (omega arith)) in omega arith

pub returns-clause-holds_small : goal.returns-clause-holds_small
returns-clause-holds_small c = (omega arith, omega arith)

pub returns-clause-fails_small : goal.returns-clause-fails_small
returns-clause-fails_small c = λ h. let l : 4 ≤ 3 = h.1 in omega arith
