use Rattle.text_writer.proofs.Putting.{puts_then}
use Rattle.repair_texts.proofs.repair_lines.put_kept.Goals as goal

pub returns : goal.returns
returns g c = puts_then (puts_then (puts_then c.piece.ensures c.number.ensures) c.piece-2.ensures) c.put.ensures
