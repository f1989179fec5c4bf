-- The set of all equations is the model, and a surplus equation of it is one among them.
use Rattle.std.proofs.Common.{◌<◌, ℕ, refl}
use Rattle.residue_theory.specs.Residues.{IsPrime}
use Rattle.residue_theory.specs.Sets.{everything}
use Rattle.mixed_matrices.specs.Models.{MixedMatrix}
use Rattle.mixed_matrices.specs.Removals.{IsSurplus, mixed_part}
use Rattle.mixed_matrices.specs.StructuralRanks.{IsStructuralRank}
use Rattle.mixed_pair_laws.proofs.RemovedRows.{emptied_equation, left_equation}
use Rattle.mixed_pair_laws.proofs.SameEntries.{same-model}
use Rattle.equation_matroid_laws.specs.Conflicts.{IsSurplusAmong}
use Rattle.equation_matroid_laws.specs.EquationRanks.{IsRankOf}

pub all-to : (p : ℕ) (M : MixedMatrix) (r : ℕ) → IsRankOf p M everything r → IsStructuralRank p M r
all-to p M r R = same-model p (mixed_part everything everything M) M
    (record { rows = refl; columns = refl; constants = λ i j _ _. refl; symbols = λ i j _ _. refl }) r R

pub all-from : (p : ℕ) (M : MixedMatrix) (r : ℕ) → IsStructuralRank p M r → IsRankOf p M everything r
all-from p M r R = same-model p M (mixed_part everything everything M)
    (record { rows = refl; columns = refl; constants = λ i j _ _. refl; symbols = λ i j _ _. refl }) r R

module _ (p : ℕ) (prime : IsPrime p) (M : MixedMatrix) (e : ℕ) (el : e < M.rows) where
  pub surplus-among : IsSurplus p M e → IsSurplusAmong p M everything e
  surplus-among (r, R, S) = (r, all-from p M r R, left_equation p prime M e el r S)

  pub among-surplus : IsSurplusAmong p M everything e → IsSurplus p M e
  among-surplus (r, R, S) = (r, all-to p M r R, emptied_equation p prime M e el r S)
