use Rattle.std.proofs.Common.{ap}
use Rattle.text_writer.specs.Numbers.{spaced}
use Rattle.text_writer.proofs.Putting.{puts_is, puts_then}
use Rattle.study_texts.proofs.solution_lines.put_open.Goals as goal

pub returns : goal.returns
returns g c =
    puts_then (puts_then (puts_then (puts_then (puts_then
    (puts_then c.piece.ensures (puts_is (ap spaced c.equations.ensures.count) c.number.ensures)) c.piece-2.ensures)
    (puts_is (ap spaced c.unknowns.ensures.count) c.number-2.ensures)) c.piece-3.ensures) c.number-3.ensures) c.piece-4.ensures
