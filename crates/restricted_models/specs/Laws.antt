-- What the rank of a model with some of its equations alone is.
use Rattle.std.specs.Prelude.{ℕ, ◌↔◌, List, length}
use Rattle.residue_theory.specs.Sets.{has}
use Rattle.mixed_matrices.specs.StructuralRanks.{IsStructuralRank}
use Rattle.mixed_model.specs.Models.{MixedModel, mixed_matrix_of}
use Rattle.cert_text.specs.Ranges.{AreRising}
use Rattle.equation_matroid_laws.specs.EquationRanks.{IsRankOf}
use Rattle.restricted_models.specs.Restrictions.{restricted}

-- the structural rank of the equations of a rising list is R of the set of these
abbrev pub RestrictedModelsHaveTheRankOfTheirEquations : Type 0
RestrictedModelsHaveTheRankOfTheirEquations =
    (p : ℕ) (model : MixedModel) (list : List ℕ) → AreRising (length model.equations) list → (r : ℕ) →
    IsStructuralRank p (mixed_matrix_of (restricted model list)) r ↔ IsRankOf p (mixed_matrix_of model) (has list) r
