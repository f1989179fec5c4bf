-- Each model has values with which it reaches its rank.
use Rattle.std.specs.Prelude.{ℕ}
use Rattle.residue_theory.specs.Residues.{IsPrime}
use Rattle.mixed_matrices.specs.Models.{MixedMatrix}
use Rattle.study_answers.specs.Values.{AreValuesOf}
use Rattle.study_answers.specs.declared.values.Values.{Values}

-- the values of a model, of which each is seen as its number
pub record HasValues (p : ℕ) (M : MixedMatrix) : Type 0 where
  pub told : Values ℕ
  pub are : AreValuesOf (λ value. value) p M told

abbrev pub EachModelHasValues : Type 0
EachModelHasValues = (p : ℕ) → IsPrime p → (M : MixedMatrix) → HasValues p M
