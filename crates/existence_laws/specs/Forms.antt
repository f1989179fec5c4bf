-- Each model has a right canonical form.
use Rattle.std.specs.Prelude.{ℕ, ◌<◌, ◌≤◌}
use Rattle.limits.specs.Limits.{equation_limit}
use Rattle.residue_theory.specs.Residues.{IsPrime}
use Rattle.mixed_matrices.specs.LayeredMatrices.{LayeredMatrix}
use Rattle.mixed_matrices.specs.Layerings.{IsLayeredMatrixOf, Origins}
use Rattle.mixed_matrices.specs.Models.{MixedMatrix}
use Rattle.cert_text.specs.Contents.{Contents}
use Rattle.cert_text.specs.Ranges.{IsCcf}
use Rattle.cert_text.specs.Right.{IsRightCcf}

-- the ranges of a certificate hold of the form, and it is right
pub record HasRightForm (p : ℕ) (M : MixedMatrix) (L : LayeredMatrix) (O : Origins) : Type 0 where
  pub form : Contents
  pub is : IsCcf p form
  pub right : IsRightCcf p M L O form

-- a model has a right form for each of its layered matrices; p is a prime above 2
abbrev pub EachModelHasARightForm : Type 0
EachModelHasARightForm =
    (p : ℕ) → IsPrime p → 2 < p → (M : MixedMatrix) → M.rows ≤ equation_limit → M.columns ≤ equation_limit →
    (L : LayeredMatrix) (O : Origins) → IsLayeredMatrixOf M L O → HasRightForm p M L O
