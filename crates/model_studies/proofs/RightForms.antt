-- A form that is right for each model with these layers is right for this one.
use Rattle.std.proofs.Common.{◌≡◌, ◌⊎◌, ◌<◌, ℕ, subst, sym}
use Rattle.mixed_matrices.specs.StructuralRanks.{IsStructuralRank}
use Rattle.mixed_model.specs.Layers.{Layers, layered_matrix_of}
use Rattle.mixed_model.specs.Models.{IsModel, MixedModel, mixed_matrix_of}
use Rattle.mixed_layering.specs.Layers.{AreLayersOf}
use Rattle.cert_text.specs.Contents.{Contents}
use Rattle.cert_text.specs.Right.{HasCanonicalListing, HasForm, HasIdeals, HasPairAndRank, HasShape, HasTransform}
use Rattle.ccf_builder.specs.Promises.{OfEachModel}
use Rattle.ccf_builder.proofs.EachModel.{right-of-model}
use Rattle.block_solver.specs.Solving.{IsRightFormFor, IsSolvingOf}
use Rattle.block_solver.specs.declared.answer.Answer.{Answer}
use Rattle.block_solver.specs.declared.answer.Answer.TheVariants.{Open}
use Rattle.study_answers.specs.Solvings.{IsOpen}

pub right-form-for : (p : ℕ) (model : MixedModel) (layers : Layers) (ccf : Contents) → IsModel p model → AreLayersOf model layers →
    OfEachModel p layers (λ M O. HasShape M (layered_matrix_of layers) ccf) → HasTransform p (layered_matrix_of layers) ccf →
    OfEachModel p layers (λ M O. HasPairAndRank p M (layered_matrix_of layers) O ccf) → HasForm p (layered_matrix_of layers) ccf →
    HasIdeals p (layered_matrix_of layers) ccf → HasCanonicalListing p (layered_matrix_of layers) ccf → IsRightFormFor p model layers ccf
right-form-for p model layers ccf is are shape transform pair triangular ideals canonical = record {
  are = are;
  right = right-of-model p model layers ccf is are shape transform pair triangular ideals canonical;
}

-- the rank of a right form is the one that is too small
pub open-told : {T : Type 0} (number : T → ℕ) (p : ℕ) (model : MixedModel) (layers : Layers) (ccf : Contents) (v : ℕ → ℕ → ℕ) (b : ℕ → ℕ)
    (rank : ℕ) (answer : Answer T) → IsRightFormFor p model layers ccf → rank ≡ ccf.rank → answer ≡ Open →
    IsSolvingOf number p (mixed_matrix_of model) layers ccf v b answer → IsOpen p (mixed_matrix_of model) rank
open-told {T} number p model layers ccf v b rank answer form same is solves = (ranked, too-small rank ranked)
  where
    ranked : IsStructuralRank p (mixed_matrix_of model) rank
    ranked = subst (IsStructuralRank p (mixed_matrix_of model)) (sym same) form.right.pair_and_rank.rank

    too-small : (r : ℕ) → IsStructuralRank p (mixed_matrix_of model) r → (r < (mixed_matrix_of model).rows) ⊎ (r < (mixed_matrix_of model).columns)
    too-small = subst (λ (a : Answer T). IsSolvingOf number p (mixed_matrix_of model) layers ccf v b a) is solves
