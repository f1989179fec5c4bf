-- Each model has a report: its rank, and that of each model with an equation or an unknown less.
use Rattle.std.proofs.Common.{◌≡◌, ℕ, ◌⊎◌, inl, inr, refl, sym, subst, ◌∙◌}
use Rattle.residue_theory.specs.Residues.{IsPrime}
use Rattle.residue_theory.proofs.SumLaws.{nat_cases}
use Rattle.mixed_matrices.specs.Models.{MixedMatrix, value}
use Rattle.mixed_matrices.specs.Removals.{IsSurplus, IsUndetermined, without_equation, without_unknown}
use Rattle.mixed_matrices.specs.StructuralRanks.{IsStructuralRank}
use Rattle.mixed_pair_laws.proofs.GreatestRanks.{mixed-rank_exists}
use Rattle.mixed_pair_laws.proofs.PairRank.{greatest-unique}
use Rattle.existence_laws.specs.Telling.{EachModelHasAReport, HasReport}
use Rattle.existence_laws.proofs.Decided.{IsListed, listed}

one-rank : (p : ℕ) (M : MixedMatrix) (r s : ℕ) → IsStructuralRank p M r → IsStructuralRank p M s → r ≡ s
one-rank p M r s R S = greatest-unique p M.rows M.columns (value M) r s R S

-- whether a model with less has the rank of the whole
same-rank : (p : ℕ) → IsPrime p → (M N : MixedMatrix) →
    ((r : ℕ) × IsStructuralRank p M r × IsStructuralRank p N r) ⊎ ((r : ℕ) × IsStructuralRank p M r × IsStructuralRank p N r → ⊥)
same-rank p prime M N = go (mixed-rank_exists p prime M) (mixed-rank_exists p prime N)
  where
    go : (r : ℕ) × IsStructuralRank p M r → (s : ℕ) × IsStructuralRank p N s →
        ((r : ℕ) × IsStructuralRank p M r × IsStructuralRank p N r) ⊎ ((r : ℕ) × IsStructuralRank p M r × IsStructuralRank p N r → ⊥)
    go (r, R) (s, S) = elim (nat_cases r s) [
      | inl same ↦ inl (r, R, subst (IsStructuralRank p N) (sym same) S)
      | inr other ↦ inr (λ both. other (one-rank p M r both.0 R both.1 ∙ one-rank p N both.0 s both.2 S))
    ]

pub has-report : EachModelHasAReport
has-report p prime M = go (mixed-rank_exists p prime M)
    (listed (IsSurplus p M) M.rows (λ i _. same-rank p prime M (without_equation i M)))
    (listed (IsUndetermined p M) M.columns (λ j _. same-rank p prime M (without_unknown j M)))
  where
    go : (r : ℕ) × IsStructuralRank p M r → IsListed M.rows (IsSurplus p M) → IsListed M.columns (IsUndetermined p M) → HasReport p M
    go (r, R) surplus undetermined = record {
      told = record { equations = M.rows; unknowns = M.columns; rank = r; surplus = surplus.list; undetermined = undetermined.list };
      is = record { equations = refl; unknowns = refl; rank = R; surplus = surplus.are; undetermined = undetermined.are };
    }
