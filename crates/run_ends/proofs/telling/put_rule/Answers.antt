use Rattle.std.proofs.Common.{ap}
use Rattle.text_writer.specs.Numbers.{spaced}
use Rattle.text_writer.proofs.Putting.{puts_is, puts_then}
use Rattle.run_ends.proofs.telling.put_rule.Goals as goal

pub returns : goal.returns
returns g c = puts_then c.piece.ensures (puts_is (ap spaced c.from.ensures) c.number.ensures)
