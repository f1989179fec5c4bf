-- Facts of the worked example: one entry with the constant -1 and a symbol.
use Rattle.std.proofs.Common.{◌≡◌, ◌+◌, ◌*◌, ◌%◌, ◌≢◌, ℕ, zero, suc, Bool, true, false, cond, inr, refl, arith}
use Rattle.residue_theory.proofs.CountLaws.{size-zero}
use Rattle.residue_theory.proofs.Primes.{prime_65521}
use Rattle.residue_theory.proofs.ResidueLaws.{agree-add, vanishes_by, vanishes_factor}
use Rattle.residue_theory.proofs.SetLaws.{not_true}
use Rattle.residue_theory.specs.Sets.{everything}
use Rattle.residue_theory.specs.Sums.{sum_on}
use Rattle.linear_algebra.specs.Columns.{IsRank}
use Rattle.linear_algebra_laws.proofs.RankLaws.{rank-size, rank_of-independent}
use Rattle.linear_algebra_laws.proofs.Ranks.{none_independent, rank-unique}
use Rattle.mixed_matrices.specs.Models.{value}
use Rattle.mixed_matrices.specs.StructuralRanks.{IsStructuralRank}
use Rattle.mixed_pair_laws.proofs.ExampleFacts.{below_one}
use Rattle.mixed_pair_laws.proofs.PairRank.{greatest-unique}
use Rattle.value_list_laws.specs.Examples.{always, minus_model}
use Rattle.value_list_laws.proofs.Lists.{next-to, twos-first}
use Rattle.value_list_laws.specs.FixedSymbols.{HaveNumbersAt, IsSymbolPlace, KeepsRank, ReachesRank}
use Rattle.value_list_laws.specs.ValueLists.{IsFirstList, before, with_one_next}

-- ---- a matrix of one entry
pub one-rank : (a : ℕ → ℕ → ℕ) → a 0 0 % 65521 ≢ 0 → IsRank 65521 a 1 1 everything 1
one-rank a ne = rank_of-independent 65521 a 1 1 everything (λ c s. below_one (λ j. everything j ≡ true → c j % 65521 ≡ 0) (λ _. only c (s 0 (omega arith))))
  where
    only : (c : ℕ → ℕ) → (0 + c 0 * a 0 0) % 65521 ≡ 0 → c 0 % 65521 ≡ 0
    only c z = vanishes_factor 65521 prime_65521 (a 0 0) (c 0) ne (vanishes_by 65521 (a 0 0 * c 0) (0 + c 0 * a 0 0) (omega arith) z)

pub zero-rank : (a : ℕ → ℕ → ℕ) → a 0 0 % 65521 ≡ 0 → IsRank 65521 a 1 1 everything 0
zero-rank a z = record {
  reached = ((λ j. false), (λ j jl h. refl), none_independent 65521 a 1 1, refl);
  greatest = λ Y within ind. omega (
    arith,
    size-zero Y 1 (below_one (λ j. Y j ≡ false) (not_true (Y 0)
        (λ h. one (ind (λ j. 1) (below_one (λ i. sum_on Y 1 (λ j. 1 * a i j) % 65521 ≡ 0) (summed (Y 0))) 0 (omega arith) h)))),
  );
}
  where
    one : suc zero ≡ zero → ⊥
    one q = omega (arith, q)

    summed : (b : Bool) → (0 + cond b (1 * a 0 0) 0) % 65521 ≡ 0
    summed true = vanishes_by 65521 (0 + 1 * a 0 0) (a 0 0) (omega arith) z
    summed false = refl

-- ---- the model
pub entry-rank : IsRank 65521 (value minus_model (always 2)) 1 1 everything 1
entry-rank = one-rank (value minus_model (always 2)) one
  where
    one : suc zero ≡ zero → ⊥
    one q = omega (arith, q)

pub model-rank : IsStructuralRank 65521 minus_model 1
model-rank = record { reached = (always 2, entry-rank); greatest = λ v s S. rank-size 65521 (value minus_model v) 1 1 everything s S }

pub two-reaches : ReachesRank 65521 minus_model (always 2)
two-reaches = (1, model-rank, entry-rank)

-- values that are 1 there do not reach the rank
pub one-fails : (v : ℕ → ℕ → ℕ) → v 0 0 % 65521 ≡ 1 → ReachesRank 65521 minus_model v → ⊥
one-fails v one (r, R, K) = clash r (greatest-unique 65521 1 1 (value minus_model) r 1 R model-rank)
    (rank-unique 65521 (value minus_model v) 1 1 everything r 0 K
    (zero-rank (value minus_model v) (agree-add 65521 65520 65520 (v 0 0) 1 refl one)))
  where
    clash : (x : ℕ) → x ≡ 1 → x ≡ 0 → ⊥
    clash x a b = omega arith

-- what holds at the one place holds at each symbol
pub at_only : (P : ℕ → ℕ → Type 0) → P 0 0 → (i j : ℕ) → IsSymbolPlace minus_model i j → P i j
at_only P h i j at = below_one (λ x. P x j) (below_one (λ y. P 0 y) h j at.1) i at.0

pub only-here : IsSymbolPlace minus_model 0 0
only-here = (omega arith, omega arith, refl)

pub two-first : IsFirstList 65521 minus_model (always 2)
two-first = twos-first 65521 prime_65521 minus_model (always 2) (λ i j at. inr refl) two-reaches
    (at_only (λ i j. 2 ≡ 2 → KeepsRank 65521 minus_model (with_one_next minus_model (always 2) i j) → ⊥)
    (λ _ keeps. go (next-to 65521 prime_65521 minus_model (always 2) 0 0 only-here keeps)))
  where
    go : (w : ℕ → ℕ → ℕ) × (w 0 0 % 65521 ≡ 1 % 65521) × HaveNumbersAt 65521 minus_model (before 0 0) (always 2) w × ReachesRank 65521 minus_model w → ⊥
    go (w, one, _, reaches) = one-fails w one reaches
