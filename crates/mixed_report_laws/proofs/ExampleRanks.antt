-- Ranks of the worked examples: the split entry, and x + y over x and a symbol at y.
use Rattle.std.proofs.Common.{◌≡◌, ℕ, ◌+◌, ◌*◌, ◌%◌, ◌<◌, ◌≤◌, ◌⊎◌, inl, inr, refl, ap, sym, subst, ◌∙◌, arith}
use Rattle.residue_theory.proofs.CountLaws.{size-positive}
use Rattle.residue_theory.proofs.Primes.{prime_65521}
use Rattle.residue_theory.proofs.ResidueLaws.{vanishes-rest, vanishes-sum, vanishes_by}
use Rattle.residue_theory.proofs.SetLaws.{eqb_true}
use Rattle.residue_theory.proofs.SumLaws.{sum_on-without, without-member}
use Rattle.residue_theory.specs.Sets.{everything, only, without}
use Rattle.residue_theory.specs.Sums.{sum_on}
use Rattle.linear_algebra.specs.Columns.{IsIndependent, IsRank}
use Rattle.linear_algebra.specs.Products.{Agree}
use Rattle.linear_algebra_laws.proofs.ExampleFacts.{ones-rank}
use Rattle.linear_algebra_laws.proofs.Kernels.{kernel-sym, kernel_of-agree, rank_of-kernel}
use Rattle.linear_algebra_laws.proofs.Ranks.{rank-unique, rank_exists}
use Rattle.mixed_matrices.specs.Examples.{split_model, stacked_matrix, stacked_model, stacked_origins}
use Rattle.mixed_matrices.specs.Layerings.{gives_q, has_symbol}
use Rattle.mixed_matrices.specs.Models.{MixedMatrix, value}
use Rattle.mixed_matrices.specs.Removals.{without_equation, without_unknown}
use Rattle.mixed_matrices.specs.StructuralRanks.{IsStructuralRank}
use Rattle.mixed_pair_laws.proofs.ExampleFacts.{below_two}
use Rattle.mixed_pair_laws.proofs.GreatestRanks.{greatest-size, mixed-rank_exists}
use Rattle.mixed_layering_laws.proofs.ChangedValues.{kept-greatest, model-ones_and_twos}
use Rattle.mixed_layering_laws.proofs.LayeringRank.{law-layering}
use Rattle.mixed_layering_laws.proofs.ScaledRows.{small}
use Rattle.mixed_layering_laws.specs.LayeredValues.{IsOneOrTwo}
use Rattle.mixed_form_laws.proofs.FirstParts.{sizes}
use Rattle.mixed_form_laws.proofs.StackedExample.{stacked-layered, stacked-rank}

-- ---- models of one row or one column
no_rank : (M : MixedMatrix) → (M.rows ≡ 0) ⊎ (M.columns ≡ 0) → IsStructuralRank 65521 M 0
no_rank M none = go (mixed-rank_exists 65521 prime_65521 M)
  where
    go : (r : ℕ) × IsStructuralRank 65521 M r → IsStructuralRank 65521 M 0
    go (r, R) = subst (λ k. IsStructuralRank 65521 M k) (empty (greatest-size 65521 prime_65521 M.rows M.columns (value M) r R) none) R
      where
        empty : (r ≤ M.rows) × (r ≤ M.columns) → (M.rows ≡ 0) ⊎ (M.columns ≡ 0) → r ≡ 0
        empty sizes (inl q) = omega (arith, sizes.0, q)
        empty sizes (inr q) = omega (arith, sizes.1, q)

-- the first column is not zero, where it has 1 at the top
first-independent : (m n : ℕ) (a : ℕ → ℕ → ℕ) → 0 < m → 0 < n → a 0 0 ≡ 1 → IsIndependent 65521 a m n (only 0)
first-independent m n a pos wide one c z j jl h = subst (λ k. c k % 65521 ≡ 0) (sym (eqb_true j 0 h))
    (vanishes-rest 65521 (sum_on (without (only 0) 0) n (λ j. c j * a 0 j)) (c 0)
    (vanishes_by 65521 _ (sum_on (only 0) n (λ j. c j * a 0 j))
    (ap (λ s. sum_on (without (only 0) 0) n (λ j. c j * a 0 j) + s) ((let q : c 0 ≡ c 0 * 1 = omega arith in q) ∙ ap (λ s. c 0 * s) (sym one))
    ∙ sym (sum_on-without (only 0) n 0 (λ j. c j * a 0 j) wide refl)) (z 0 pos))
    (vanishes-sum 65521 (without (only 0) 0) n (λ j. c j * a 0 j)
    (λ j _ w. absurd ((without-member (only 0) 0 j w).1 (eqb_true j 0 (without-member (only 0) 0 j w).0)))))

one_rank : (M : MixedMatrix) → 0 < M.rows → 0 < M.columns → (M.rows ≡ 1) ⊎ (M.columns ≡ 1) → value M (λ i j. 0) 0 0 ≡ 1 → IsStructuralRank 65521 M 1
one_rank M pos wide single one = go (mixed-rank_exists 65521 prime_65521 M)
    (rank_exists 65521 prime_65521 (value M (λ i j. 0)) M.rows M.columns everything)
  where
    go : (r : ℕ) × IsStructuralRank 65521 M r → (s : ℕ) × IsRank 65521 (value M (λ i j. 0)) M.rows M.columns everything s → IsStructuralRank 65521 M 1
    go (r, R) (s, S) = subst (λ k. IsStructuralRank 65521 M k) (exactly (greatest-size 65521 prime_65521 M.rows M.columns (value M) r R) single) R
      where
        least : 1 ≤ r
        least = omega (
          arith,
          R.greatest (λ i j. 0) s S,
          S.greatest (only 0) (λ _ _ _. refl) (first-independent M.rows M.columns (value M (λ i j. 0)) pos wide one),
          size-positive (only 0) M.columns 0 wide refl,
        )

        exactly : (r ≤ M.rows) × (r ≤ M.columns) → (M.rows ≡ 1) ⊎ (M.columns ≡ 1) → r ≡ 1
        exactly sizes (inl q) = omega (arith, sizes.0, q, least)
        exactly sizes (inr q) = omega (arith, sizes.1, q, least)

pub split_gone-rank : IsStructuralRank 65521 (without_equation 0 split_model) 0
split_gone-rank = no_rank (without_equation 0 split_model) (inl refl)

pub split_narrow-rank : IsStructuralRank 65521 (without_unknown 0 split_model) 0
split_narrow-rank = no_rank (without_unknown 0 split_model) (inr refl)

pub stacked_first-rank : IsStructuralRank 65521 (without_equation 1 stacked_model) 1
stacked_first-rank = one_rank (without_equation 1 stacked_model) (omega arith) (omega arith) (inl refl) refl

pub stacked_second-rank : IsStructuralRank 65521 (without_equation 0 stacked_model) 1
stacked_second-rank = one_rank (without_equation 0 stacked_model) (omega arith) (omega arith) (inl refl) refl

-- ---- x + y over x and a symbol at y
pub stacked_model-rank : IsStructuralRank 65521 stacked_model 2
stacked_model-rank = law-layering 65521 prime_65521 stacked_model (gives_q stacked_model)
    (has_symbol stacked_model) stacked_matrix stacked_origins stacked-layered (omega arith) 2 stacked-rank

-- only the number at the symbol's place tells values apart
same_values : (v : ℕ → ℕ → ℕ) (b : ℕ → ℕ → ℕ) → b 0 0 ≡ 1 → b 0 1 ≡ 1 → b 1 0 ≡ 1 → b 1 1 ≡ v 1 1 → Agree 65521 2 2 (value stacked_model v) b
same_values v b one two three four i j il jl = below_two (λ i. value stacked_model v i j % 65521 ≡ b i j % 65521)
    (below_two (λ j. value stacked_model v 0 j % 65521 ≡ b 0 j % 65521) (ap (λ s. s % 65521) (sym one)) (ap (λ s. s % 65521) (sym two)) j jl)
    (below_two (λ j. value stacked_model v 1 j % 65521 ≡ b 1 j % 65521) (ap (λ s. s % 65521) (sym three))
    (ap (λ s. s % 65521) ((let q : 0 + v 1 1 ≡ v 1 1 = omega arith in q) ∙ sym four)) j jl) i il

rank_by : (v b : ℕ → ℕ → ℕ) (r : ℕ) → Agree 65521 2 2 (value stacked_model v) b → IsRank 65521
    (value stacked_model v) 2 2 everything r → IsRank 65521 b 2 2 everything r
rank_by v b r same = rank_of-kernel 65521 2 2 (value stacked_model v) b everything r (kernel_of-agree 65521 2 2 (value stacked_model v) b same)

pub stacked_one-rank : IsRank 65521 (value stacked_model (λ i j. 1)) 2 2 everything 1
stacked_one-rank = rank_of-kernel 65521 2 2 (λ i j. 1) (value stacked_model (λ i j. 1)) everything 1
    (kernel-sym 65521 2 2 (value stacked_model (λ i j. 1)) (λ i j. 1)
    (kernel_of-agree 65521 2 2 (value stacked_model (λ i j. 1)) (λ i j. 1) (same_values (λ i j. 1) (λ i j. 1) refl refl refl refl))) ones-rank

-- 1 and 2 alone reach the rank, and 1 does not
pub stacked_two-rank : IsRank 65521 (value stacked_model (λ i j. 2)) 2 2 everything 2
stacked_two-rank = go (model-ones_and_twos 65521 prime_65521 stacked_model stacked_model-rank.reached.1.reached.0
    stacked_model-rank.reached.0 stacked_model-rank.reached.1.reached.2)
  where
    go : (v : ℕ → ℕ → ℕ) × IsIndependent 65521 (value stacked_model v) 2 2 stacked_model-rank.reached.1.reached.0 ×
        ((i j : ℕ) → i < 2 → j < 2 → IsOneOrTwo (v i j)) → IsRank 65521 (value stacked_model (λ i j. 2)) 2 2 everything 2
    go (v, ind, small) = elim (small 1 1 (omega arith) (omega arith)) [
      | inl q ↦ absurd (omega (
        arith,
        rank-unique 65521 (λ i j. 1) 2 2 everything 2 1
            (rank_by v (λ i j. 1) 2 (same_values v (λ i j. 1) refl refl refl (sym q)) reached) ones-rank,
      ))
      | inr q ↦ rank_by v (value stacked_model (λ i j. 2)) 2 (same_values v (value stacked_model (λ i j. 2)) refl refl refl (sym q)) reached
    ]
      where
        reached : IsRank 65521 (value stacked_model v) 2 2 everything 2
        reached = kept-greatest 65521 prime_65521 2 2 (value stacked_model) 2 stacked_model-rank v ind
