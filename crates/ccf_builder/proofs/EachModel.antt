-- What is promised of each model with these layers holds for this one.
use Rattle.std.proofs.Common.{ℕ}
use Rattle.mixed_model.specs.Layers.{Layers, layered_matrix_of}
use Rattle.mixed_model.specs.Models.{IsModel, MixedModel, mixed_matrix_of}
use Rattle.mixed_layering.specs.Layers.{AreLayersOf, origins_of}
use Rattle.cert_text.specs.Contents.{Contents}
use Rattle.cert_text.specs.Right.{HasCanonicalListing, HasForm, HasIdeals, HasPairAndRank, HasShape, HasTransform, IsRightCcf}
use Rattle.ccf_builder.specs.Promises.{OfEachModel}

-- a form of which the clauses of `build` hold is right for the model
pub right-of-model : (p : ℕ) (model : MixedModel) (layers : Layers) (form : Contents) → IsModel p model → (are : AreLayersOf model layers) →
    OfEachModel p layers (λ M O. HasShape M (layered_matrix_of layers) form) → HasTransform p (layered_matrix_of layers) form →
    OfEachModel p layers (λ M O. HasPairAndRank p M (layered_matrix_of layers) O form) → HasForm p (layered_matrix_of layers) form →
    HasIdeals p (layered_matrix_of layers) form → HasCanonicalListing p (layered_matrix_of layers) form →
    IsRightCcf p (mixed_matrix_of model) (layered_matrix_of layers) (origins_of layers are.split) form
right-of-model p model layers form is are shape transform pair triangular ideals canonical = record {
  shape = shape model is are;
  transform = transform;
  pair_and_rank = pair model is are;
  block_triangular_form = triangular;
  ideals = ideals;
  canonical_listing = canonical;
}
