-- How many symbols stand in a row and in a model; what makes a form right for its model.
use Rattle.std.proofs.Common.{◌≡◌, ℕ, zero, suc, ◌+◌, ◌*◌, ◌≤◌, Bool, ap, refl, arith}
use Rattle.residue_theory.specs.Sets.{everything}
use Rattle.residue_theory.specs.Sums.{size_on, sum_below}
use Rattle.residue_theory.proofs.CountLaws.{size-everything}
use Rattle.residue_theory.proofs.SumLaws.{size_on-within}
use Rattle.mixed_model.specs.Models.{MixedModel, IsModel}
use Rattle.mixed_model.specs.Layers.{Layers, layered_matrix_of}
use Rattle.mixed_layering.specs.Layers.{AreLayersOf}
use Rattle.cert_text.specs.Contents.{Contents}
use Rattle.cert_text.specs.Right.{HasCanonicalListing, HasForm, HasIdeals, HasPairAndRank, HasShape, HasTransform}
use Rattle.ccf_builder.specs.Promises.{OfEachModel}
use Rattle.block_solver.specs.Solving.{IsRightFormFor}

pub size-most : (A : ℕ → Bool) (n : ℕ) → size_on A n ≤ n
size-most A n = omega (arith, size-everything n, size_on-within everything A n (λ _ _ _. refl))

pub summed : (f : ℕ → ℕ) (n : ℕ) → sum_below (n + 1) f ≡ sum_below n f + f n
summed f n = ap (λ k. sum_below k f) (let e : n + 1 ≡ suc n = omega arith in e)

pub sum-most : (f : ℕ → ℕ) (n : ℕ) → ((k : ℕ) → f k ≤ 4096) → sum_below n f ≤ n * 4096
sum-most f zero each = omega arith
sum-most f (suc n) each = omega (arith, sum-most f n each, each n)

pub right-form : (p : ℕ) (model : MixedModel) (layers : Layers) (c : Contents) → IsModel p model → (are : AreLayersOf model layers) →
    OfEachModel p layers (λ M O. HasShape M (layered_matrix_of layers) c) → HasTransform p (layered_matrix_of layers) c →
    OfEachModel p layers (λ M O. HasPairAndRank p M (layered_matrix_of layers) O c) → HasForm p (layered_matrix_of layers) c →
    HasIdeals p (layered_matrix_of layers) c → HasCanonicalListing p (layered_matrix_of layers) c → IsRightFormFor p model layers c
right-form p model layers c is are shape transform pair triangular ideals canonical = record {
  are = are;
  right = record {
    shape = shape model is are;
    transform = transform;
    pair_and_rank = pair model is are;
    block_triangular_form = triangular;
    ideals = ideals;
    canonical_listing = canonical;
  };
}
