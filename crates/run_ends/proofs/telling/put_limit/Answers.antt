use Rattle.text_writer.proofs.Putting.{puts_then}
use Rattle.run_ends.proofs.telling.put_limit.Goals as goal

pub returns : goal.returns
returns g c = puts_then (puts_then c.piece.ensures c.number.ensures) c.piece-2.ensures
