-- What makes a certificate right for an input.
use Rattle.std.specs.Prelude.{◌≡◌, ℕ, ◌≤◌, List, length}
use Rattle.mixed_matrices.specs.LayeredMatrices.{LayeredMatrix}
use Rattle.mixed_matrices.specs.Layerings.{Origins, IsLayeredMatrixOf}
use Rattle.mixed_model.specs.Models.{MixedModel, mixed_matrix_of}
use Rattle.cert_text.specs.Ranges.{IsCcf}
use Rattle.cert_text.specs.Right.{IsRightCcf}
use Rattle.cert_text.specs.Contents.{Certificate}
use Rattle.cert_text.specs.declared.kind.Kind.{Kind}
use Rattle.cert_text.specs.declared.version.Version.{Version}
use Rattle.limits.specs.Limits.{input_limit}
use Rattle.input_kinds.specs.Kinds.{GivesModel}

-- over the residues modulo p: the input, of this kind, keeps each rule and gives a model, and the certificate has the
-- version and the kind, states p, repeats the input, keeps the ranges and orders of its lines, and has a right
-- canonical form of the model's layered matrix
pub record IsRightForInput (p : ℕ) (version : Version) (kind : Kind) (input : List ℕ) (certificate : Certificate) :
    Type 0 where
  pub model : MixedModel
  pub gives : GivesModel p kind input model
  pub version_is : certificate.version ≡ version
  pub modulus_is : certificate.modulus ≡ p
  pub kind_is : certificate.kind ≡ kind
  pub echo : certificate.echo ≡ input
  pub short : length certificate.echo ≤ input_limit
  pub form : IsCcf p certificate.ccf
  pub layered : LayeredMatrix
  pub origins : Origins
  pub layers : IsLayeredMatrixOf (mixed_matrix_of model) layered origins
  pub right : IsRightCcf p (mixed_matrix_of model) layered origins certificate.ccf
