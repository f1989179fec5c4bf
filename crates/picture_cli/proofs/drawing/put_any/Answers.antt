use Rattle.std.proofs.Common.{ap, sym}
use Rattle.text_writer.proofs.Putting.{puts_is}
use Rattle.picture_cli.specs.Drawings.{drawing_in, drawing_text}
use Rattle.picture_cli.proofs.drawing.put_any.Goals as goal

pub returns-in-Small : goal.returns-in-Small
returns-in-Small g c = puts_is (ap (λ d. drawing_text (drawing_in d)) (sym c.in-Small.is)) c.put_drawing.ensures

pub returns-in-Large : goal.returns-in-Large
returns-in-Large g c = puts_is (ap (λ d. drawing_text (drawing_in d)) (sym c.in-Large.is)) c.put_drawing-in-Large.ensures
