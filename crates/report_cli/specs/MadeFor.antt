-- What is told of a made model.
use Rattle.std.specs.Prelude.{ℕ, ◌≡◌, List}
use Rattle.made_models.specs.MadeModels.{IsMade, IsSize}
use Rattle.mixed_matrices.specs.LayeredMatrices.{LayeredMatrix}
use Rattle.mixed_matrices.specs.Layerings.{Origins, IsLayeredMatrixOf}
use Rattle.mixed_model.specs.Models.{IsModel, MixedModel, mixed_matrix_of}
use Rattle.cert_text.specs.Contents.{Contents}
use Rattle.cert_text.specs.Ranges.{IsCcf}
use Rattle.cert_text.specs.Right.{IsRightCcf}
use Rattle.answer_texts.specs.MadeTexts.{made_text}

-- over the residues modulo p: the form is a right one of the layered matrix of the made model of size n, in which so
-- many equations are split
pub record IsMadeFor (p n split : ℕ) (ccf : Contents) : Type 0 where
  pub size : IsSize n
  pub model : MixedModel
  pub made : IsMade n model
  pub is : IsModel p model
  pub layered : LayeredMatrix
  pub origins : Origins
  pub layers : IsLayeredMatrixOf (mixed_matrix_of model) layered origins
  pub split_is : split ≡ origins.split
  pub form : IsCcf p ccf
  pub right : IsRightCcf p (mixed_matrix_of model) layered origins ccf

-- the text tells of the made model of size n: its sizes, its rank and its parts
pub record IsMakeText (p n : ℕ) (text : List ℕ) : Type 0 where
  pub split : ℕ
  pub ccf : Contents
  pub right : IsMadeFor p n split ccf
  pub text_is : text ≡ made_text n split ccf
