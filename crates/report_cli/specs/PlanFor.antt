-- What makes a plan one for an input.
use Rattle.std.specs.Prelude.{ℕ, List}
use Rattle.mixed_layering.specs.Layers.{AreLayersOf, origins_of}
use Rattle.mixed_model.specs.Layers.{Layers, layered_matrix_of}
use Rattle.mixed_model.specs.Models.{MixedModel, mixed_matrix_of}
use Rattle.cert_text.specs.Contents.{Contents}
use Rattle.cert_text.specs.Ranges.{IsCcf}
use Rattle.cert_text.specs.Right.{IsRightCcf}
use Rattle.cert_text.specs.declared.kind.Kind.{Kind}
use Rattle.solve_plan.specs.Plans.{IsPlanOf}
use Rattle.solve_plan.specs.declared.steps.Plan.{Plan}
use Rattle.answer_texts.specs.WholeLayers.{AreWholeLayers}
use Rattle.input_kinds.specs.Kinds.{GivesModel}

-- over the residues modulo p, of which each value is seen by its number: the input, of this kind, gives the model,
-- these are its whole layers, and the plan is that of a right canonical form of its layered matrix
pub record IsPlanFor {T : Type 0} (number : T → ℕ) (p : ℕ) (kind : Kind) (input : List ℕ) (model : MixedModel)
    (layers : Layers) (plan : Plan T) : Type 0 where
  pub gives : GivesModel p kind input model
  pub are : AreLayersOf model layers
  pub whole : AreWholeLayers layers
  pub ccf : Contents
  pub form : IsCcf p ccf
  pub right : IsRightCcf p (mixed_matrix_of model) (layered_matrix_of layers) (origins_of layers are.split)
      ccf
  pub is : IsPlanOf number p (mixed_matrix_of model) (layered_matrix_of layers) layers ccf plan
