-- What a report on a model tells.
use Rattle.std.specs.Prelude.{ℕ, ◌≡◌}
use Rattle.mixed_matrices.specs.Models.{MixedMatrix}
use Rattle.mixed_matrices.specs.Removals.{IsSurplus, IsUndetermined}
use Rattle.mixed_matrices.specs.StructuralRanks.{IsStructuralRank}
use Rattle.mixed_model.specs.Layers.{Layers, layered_matrix_of}
use Rattle.mixed_model.specs.Models.{MixedModel, IsModel, mixed_matrix_of}
use Rattle.mixed_layering.specs.Layers.{AreLayersOf, origins_of}
use Rattle.cert_text.specs.Contents.{Contents}
use Rattle.cert_text.specs.Right.{IsRightCcf}
use Rattle.solve_plan.specs.declared.told.Report.{Report}
use Rattle.solve_plan.specs.Marks.{AreMembersOf}

-- the form is right for some model over the field of p elements of which these are the layers
pub record IsRightFormOf (p : ℕ) (layers : Layers) (c : Contents) : Type 0 where
  pub model : MixedModel
  pub is : IsModel p model
  pub are : AreLayersOf model layers
  pub right : IsRightCcf p (mixed_matrix_of model) (layered_matrix_of layers) (origins_of layers are.split) c

-- the numbers, the structural rank, the surplus equations and the undetermined unknowns are those of M
pub record IsReportOf (p : ℕ) (M : MixedMatrix) (told : Report) : Type 0 where
  pub equations : told.equations ≡ M.rows
  pub unknowns : told.unknowns ≡ M.columns
  pub rank : IsStructuralRank p M told.rank
  pub surplus : AreMembersOf M.rows (IsSurplus p M) told.surplus
  pub undetermined : AreMembersOf M.columns (IsUndetermined p M) told.undetermined

-- it is the report on each model of which these are the layers and for which the form is right
abbrev pub ReportsEach : ℕ → Layers → Contents → Report → Type 0
ReportsEach p layers c told =
    (model : MixedModel) → IsModel p model → (are : AreLayersOf model layers) →
    IsRightCcf p (mixed_matrix_of model) (layered_matrix_of layers) (origins_of layers are.split) c →
    IsReportOf p (mixed_matrix_of model) told
