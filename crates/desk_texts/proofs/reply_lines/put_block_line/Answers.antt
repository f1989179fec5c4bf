use Rattle.std.proofs.Common.{ap}
use Rattle.desk_texts.specs.Texts.{lower_blocks_text, names_text}
use Rattle.text_writer.proofs.Putting.{puts_then, puts_is}
use Rattle.desk_texts.proofs.reply_lines.put_block_line.Goals as goal

pub returns : goal.returns
returns g c =
    puts_then (puts_then (puts_then (puts_then (puts_then (puts_then c.piece.ensures c.number.ensures) c.piece-2.ensures)
    (puts_is (ap (names_text c.args.model.now c.args.layered.now) c.as_slice.ensures) c.put_names.ensures)) c.piece-3.ensures)
    (puts_is (ap lower_blocks_text c.as_slice-2.ensures) c.put_blocks.ensures)) c.piece-4.ensures
