-- Each model with values and right sides is solved.
use Rattle.std.specs.Prelude.{ℕ, ◌<◌, ◌≡◌, List, length}
use Rattle.residue_theory.specs.Residues.{IsPrime}
use Rattle.mixed_model.specs.Layers.{Layers}
use Rattle.mixed_model.specs.Models.{IsModel, MixedModel, mixed_matrix_of}
use Rattle.mixed_layering.specs.Layers.{AreLayersOf}
use Rattle.value_list_laws.specs.ListedValues.{symbol_count}
use Rattle.study_answers.specs.Solvings.{IsSolvingBy}
use Rattle.study_answers.specs.declared.solving.Solving.{Solving}

-- what solving a model with these values and right sides tells, where each value is seen as its number
pub record HasSolving (p : ℕ) (model : MixedModel) (layers : Layers) (values right : List ℕ) : Type 0 where
  pub solving : Solving ℕ
  pub is : IsSolvingBy (λ value. value) p model layers values right solving

-- p is a prime above 2; there is a value for each symbol and a right side for each equation
abbrev pub EachProblemIsSolved : Type 0
EachProblemIsSolved =
    (p : ℕ) → IsPrime p → 2 < p → (model : MixedModel) → IsModel p model →
    (layers : Layers) → AreLayersOf model layers →
    (values right : List ℕ) → length values ≡ symbol_count (mixed_matrix_of model) →
    length right ≡ length model.equations → HasSolving p model layers values right
