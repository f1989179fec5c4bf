-- Surplus and undetermined, by the minimisers of a layered matrix.
use Rattle.std.proofs.Common.{◌≡◌, ℕ, ◌+◌, ◌-◌, ◌<◌, Bool, true, false, refl, subst, arith}
use Rattle.residue_theory.proofs.SetLaws.{not_true}
use Rattle.residue_theory.specs.Residues.{IsPrime}
use Rattle.residue_theory.specs.Sets.{everything, without}
use Rattle.linear_algebra.specs.Columns.{IsRank}
use Rattle.linear_algebra.specs.Parts.{without_row}
use Rattle.mixed_matrices.specs.LayeredMatrices.{LayeredMatrix, layered_part}
use Rattle.mixed_matrices.specs.Layerings.{IsLayering, Origins}
use Rattle.mixed_matrices.specs.Models.{MixedMatrix}
use Rattle.mixed_matrices.specs.Removals.{IsSurplus, IsUndetermined, without_equation, without_unknown}
use Rattle.mixed_matrices.specs.SetFunctions.{IsMinimiser, IsRho, touches_set}
use Rattle.mixed_matrices.specs.StructuralRanks.{IsLayeredRank, IsStructuralRank}
use Rattle.mixed_pair_laws.proofs.GreatestRanks.{mixed-rank_exists}
use Rattle.mixed_layering_laws.proofs.LayeringRank.{layering-law}
use Rattle.mixed_report_laws.proofs.EmptiedColumns.{column_empty-falls, column_empty-stays}
use Rattle.mixed_report_laws.proofs.EmptiedConstantRows.{constants_empty-same, constants_empty-stays}
use Rattle.mixed_report_laws.proofs.EmptiedSymbolRows.{symbols_empty-falls, symbols_empty-stays}
use Rattle.mixed_report_laws.proofs.Removals.{equation-constants, equation-symbols, unknown-column}

-- two models beside two layered matrices of them: where the layered ranks are the same, the models' are
same-rank : (p : ℕ) → IsPrime p → (M N : MixedMatrix) (L K : LayeredMatrix) (s : ℕ) → ((r : ℕ) → IsStructuralRank p M r → IsLayeredRank p L (r + s)) →
    ((r : ℕ) → IsStructuralRank p N r → IsLayeredRank p K (r + s)) →
    ((r t : ℕ) → IsLayeredRank p L r → IsLayeredRank p K t → t ≡ r) → (r : ℕ) × IsStructuralRank p M r × IsStructuralRank p N r
same-rank p prime M N L K s there less same = go (mixed-rank_exists p prime M) (mixed-rank_exists p prime N)
  where
    go : (r : ℕ) × IsStructuralRank p M r → (t : ℕ) × IsStructuralRank p N t → (r : ℕ) × IsStructuralRank p M r × IsStructuralRank p N r
    go (r, R) (t, T) = (
      r,
      R,
      subst (λ k. IsStructuralRank p N k)
          (let q : t + s ≡ r + s = same (r + s) (t + s) (there r R) (less t T) in omega (arith, q)) T,
    )

module _ (p : ℕ) (prime : IsPrime p) (big : 2 < p) (M : MixedMatrix) (A D : ℕ → Bool) (L : LayeredMatrix) (O : Origins) (lay : IsLayering M A D L O) where
  -- ---- an unknown
  module _ (j : ℕ) (jl : j < M.columns) where
    inside : j < L.columns
    inside = omega (arith, lay.columns)

    pub undetermined-held : IsUndetermined p M j → (X : ℕ → Bool) → IsMinimiser p L X → X j ≡ true
    undetermined-held (r, R, T) X least = go (X j) refl
      where
        go : (b : Bool) → X j ≡ b → X j ≡ true
        go true h = h
        go false h = absurd (omega (
          arith,
          column_empty-falls p prime L j inside (r + O.split) (r + O.split)
              (layering-law p prime M A D L O lay big r R) (unknown-column p prime M A D L O lay big j jl r T) X least h,
        ))

    pub held-undetermined : ((X : ℕ → Bool) → IsMinimiser p L X → X j ≡ true) → IsUndetermined p M j
    held-undetermined each = same-rank p prime M (without_unknown j M) L (layered_part everything everything (without everything j) L) O.split
        (layering-law p prime M A D L O lay big) (unknown-column p prime M A D L O lay big j jl)
        (λ r t R T. column_empty-stays p prime L j inside r t R T each)

  -- ---- an equation with a T row
  module _ (d : ℕ) (dl : d < L.t_rows) where
    pub surplus-untouched : IsSurplus p M (O.of_t d) → (X : ℕ → Bool) → IsMinimiser p L X → touches_set L X d ≡ false
    surplus-untouched (r, R, T) X least = not_true (touches_set L X d)
        (λ h. omega (
          arith,
          symbols_empty-falls p prime L d dl (r + O.split) (r + O.split) (layering-law p prime M A D L O lay big r R)
              (equation-symbols p prime M A D L O lay big d dl r T) X least h,
        ))

    pub untouched-surplus : ((X : ℕ → Bool) → IsMinimiser p L X → touches_set L X d ≡ false) → IsSurplus p M (O.of_t d)
    untouched-surplus none = same-rank p prime M (without_equation (O.of_t d) M) L
        (layered_part everything (without everything d) everything L) O.split (layering-law p prime M A D L O lay big)
        (equation-symbols p prime M A D L O lay big d dl)
        (λ r t R T. symbols_empty-stays p prime L d dl r t R T none)

  -- ---- an equation without one
  module _ (e : ℕ) (el : e < L.q_rows) (no_t : D (O.of_q e) ≡ false) where
    abbrev pub RhoStays : (ℕ → Bool) → Type 0
    RhoStays X = (u v : ℕ) → IsRho p L X u → IsRank p (without_row e L.q) (L.q_rows - 1) L.columns X v → v ≡ u

    pub surplus-rho : IsSurplus p M (O.of_q e) → (X : ℕ → Bool) → IsMinimiser p L X → RhoStays X
    surplus-rho (r, R, T) = constants_empty-same p prime L e el (r + O.split) (layering-law p prime M A D L O lay big r R)
        (equation-constants p prime M A D L O lay big e el no_t r T)

    pub rho-surplus : ((X : ℕ → Bool) → IsMinimiser p L X → RhoStays X) → IsSurplus p M (O.of_q e)
    rho-surplus each = same-rank p prime M (without_equation (O.of_q e) M) L (layered_part (without everything e) everything everything L) O.split
        (layering-law p prime M A D L O lay big) (equation-constants p prime M A D L O lay big e el no_t)
        (λ r t R T. constants_empty-stays p prime L e el r t R T each)
