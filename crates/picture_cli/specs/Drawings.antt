-- What is drawn over one of the two fields, and its picture.
use Rattle.std.specs.Prelude.{◌≡◌, ℕ, List}
use Rattle.cert_verdict.specs.declared.judging.Accepted.{Accepted}
use Rattle.matrix_picture.specs.Orders.{order_of}
use Rattle.matrix_picture.specs.Texts.{picture_text}
use Rattle.mixed_layering.specs.Layers.{AreLayersOf}
use Rattle.picture_cli.specs.declared.drawing.AnyDrawing.{AnyDrawing}
use Rattle.picture_cli.specs.declared.drawing.AnyDrawing.TheVariants.{Small, Large}
use Rattle.picture_cli.specs.declared.drawing.Drawing.{Drawing}

-- what is drawn, of whichever field
abbrev pub drawing_in : AnyDrawing → Drawing ℕ
drawing_in (Small drawing) = drawing
drawing_in (Large drawing) = drawing

-- the picture
abbrev pub drawing_text : {T : Type 0} → Drawing T → List ℕ
drawing_text drawing = picture_text drawing.model drawing.layered drawing.certificate.ccf drawing.layout

-- the certificate and the model that were accepted, with the layered matrix of the model and the order of the form
pub record IsLaidOut {T : Type 0} (accepted : Accepted T) (drawing : Drawing T) : Type 0 where
  pub certificate : drawing.certificate ≡ accepted.certificate
  pub model : drawing.model ≡ accepted.model
  pub are : AreLayersOf accepted.model drawing.layered
  pub placed : drawing.layout ≡ order_of accepted.certificate.ccf
