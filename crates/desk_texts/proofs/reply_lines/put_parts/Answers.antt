use Rattle.std.proofs.Common.{ap, codes, subst, sym}
use Rattle.std.specs.List.{All}
use Rattle.desk_texts.specs.Ranges.{IsBlockIn}
use Rattle.desk_texts.specs.Texts.{reply_block_lines, reply_tail_line}
use Rattle.text_writer.proofs.Putting.{puts_then, puts_is}
use Rattle.desk_texts.proofs.reply_lines.put_parts.Goals as goal

pub put_block_lines-requires-clause-blocks : goal.put_block_lines-requires-clause-blocks
put_block_lines-requires-clause-blocks g c =
    subst (All (IsBlockIn c.args.layered.now.q.width)) (sym c.as_slice-2.ensures.value) c.requires.parts.blocks

pub returns : goal.returns
returns g c =
    puts_then (puts_then (puts_then (puts_then c.put_number.ensures
    (puts_is (ap (reply_tail_line (codes "first") c.args.model.now c.args.layered.now) c.as_slice.ensures) c.put_tail.ensures))
    (puts_is (ap (reply_block_lines c.args.model.now c.args.layered.now 1) c.as_slice-2.ensures.value) c.put_block_lines.ensures))
    (puts_is (ap (reply_tail_line (codes "last") c.args.model.now c.args.layered.now) c.as_slice-3.ensures) c.put_tail-2.ensures)) c.piece.ensures
