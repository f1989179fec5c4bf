-- What a run answers.
use Rattle.std.specs.Prelude.{◌≡◌, ℕ, List}
use Rattle.cert_text.specs.Contents.{Certificate}
use Rattle.cert_reader.specs.Limits.{certificate_limit}
use Rattle.cert_verdict.specs.Statuses.{IsUnaccepted}
use Rattle.cert_verdict.specs.Verdicts.{IsAcceptedAs}
use Rattle.mixed_layering.specs.Layers.{AreLayersOf}
use Rattle.mixed_model.specs.Layers.{Layers}
use Rattle.mixed_model.specs.Models.{MixedModel}
use Rattle.matrix_picture.specs.Orders.{order_of}
use Rattle.matrix_picture.specs.Texts.{picture_text}
use Rattle.picture_cli.specs.declared.drawing.Drawing.{Drawing}
use Rattle.run_ends.specs.Answers.{IsAnswerBy}
use Rattle.run_ends.specs.declared.status.Status.{Status}
use Rattle.run_ends.specs.declared.status.Status.TheVariants.{Done}

-- the input is the text of a certificate that is accepted, and this is the picture of its form, with the names of the
-- model that its echo gives and of the layered matrix of that model
pub record IsPictureOf (input text : List ℕ) : Type 0 where
  pub certificate : Certificate
  pub model : MixedModel
  pub accepted : IsAcceptedAs input certificate model
  pub layers : Layers
  pub are : AreLayersOf model layers
  pub text_is : text ≡ picture_text model layers certificate.ccf (order_of certificate.ccf)

-- the text is a picture of the input, with which a run is done
abbrev pub IsPicture : List ℕ → Status → List ℕ → Type 0
IsPicture input status text = (status ≡ Done) × IsPictureOf input text

-- a run on this whole input ends with this status and this text on `out`, when nothing fails
abbrev pub IsPictureAnswer : List ℕ → Status → List ℕ → Type 0
IsPictureAnswer = IsAnswerBy certificate_limit IsUnaccepted IsPicture

-- the input is the text of the certificate, with the model that its echo gives, the layered matrix of the model, and
-- the order of the form
pub record IsDrawnFor (input : List ℕ) (drawing : Drawing ℕ) : Type 0 where
  pub accepted : IsAcceptedAs input drawing.certificate drawing.model
  pub are : AreLayersOf drawing.model drawing.layered
  pub placed : drawing.layout ≡ order_of drawing.certificate.ccf
