use Rattle.text_writer.proofs.Putting.{puts_then}
use Rattle.answer_texts.proofs.made_lines.put_system.Goals as goal

pub returns : goal.returns
returns g c =
    let equations = puts_then c.piece.ensures c.number.ensures in
    let unknowns = puts_then (puts_then equations c.piece-2.ensures) c.number-2.ensures in
    let split = puts_then (puts_then unknowns c.piece-3.ensures) c.number-3.ensures in
    puts_then split c.piece-4.ensures
