use Rattle.std.proofs.Common.{ap}
use Rattle.text_writer.proofs.Putting.{puts_is}
use Rattle.picture_cli.specs.Drawings.{drawing_text}
use Rattle.picture_cli.proofs.drawing.put_drawing.Goals as goal

pub returns : goal.returns
returns g c = puts_is (ap drawing_text c.drawing.view_is) c.put_picture.ensures
