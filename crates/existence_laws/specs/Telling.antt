-- Each model has a report, and each right form of a model a plan.
use Rattle.std.specs.Prelude.{ℕ, ◌<◌}
use Rattle.residue_theory.specs.Residues.{IsPrime}
use Rattle.mixed_matrices.specs.Models.{MixedMatrix}
use Rattle.mixed_model.specs.Layers.{Layers, layered_matrix_of}
use Rattle.mixed_model.specs.Models.{IsModel, MixedModel, mixed_matrix_of}
use Rattle.mixed_layering.specs.Layers.{AreLayersOf, origins_of}
use Rattle.cert_text.specs.Contents.{Contents}
use Rattle.cert_text.specs.Ranges.{IsCcf}
use Rattle.cert_text.specs.Right.{IsRightCcf}
use Rattle.solve_plan.specs.Plans.{IsPlanOf}
use Rattle.solve_plan.specs.Reports.{IsReportOf}
use Rattle.solve_plan.specs.declared.steps.Plan.{Plan}
use Rattle.solve_plan.specs.declared.told.Report.{Report}

-- the report on a model
pub record HasReport (p : ℕ) (M : MixedMatrix) : Type 0 where
  pub told : Report
  pub is : IsReportOf p M told

abbrev pub EachModelHasAReport : Type 0
EachModelHasAReport = (p : ℕ) → IsPrime p → (M : MixedMatrix) → HasReport p M

-- the plan of a form, of which each value is seen as its number
pub record HasPlan (p : ℕ) (model : MixedModel) (layers : Layers) (c : Contents) : Type 0 where
  pub plan : Plan ℕ
  pub is : IsPlanOf (λ value. value) p (mixed_matrix_of model) (layered_matrix_of layers) layers c plan

-- p is a prime above 2
abbrev pub EachRightFormHasAPlan : Type 0
EachRightFormHasAPlan =
    (p : ℕ) → IsPrime p → 2 < p → (model : MixedModel) → IsModel p model →
    (layers : Layers) (are : AreLayersOf model layers) (c : Contents) → IsCcf p c →
    IsRightCcf p (mixed_matrix_of model) (layered_matrix_of layers) (origins_of layers are.split) c →
    HasPlan p model layers c
