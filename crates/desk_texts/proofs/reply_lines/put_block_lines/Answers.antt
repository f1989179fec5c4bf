use Rattle.std.proofs.Common.{◌+◌, ap, subst, sym}
use Rattle.desk_texts.specs.Ranges.{IsBlockIn}
use Rattle.desk_texts.specs.Texts.{reply_block_line, reply_block_lines}
use Rattle.desk_texts.proofs.ReplyPieces.{lines_left}
use Rattle.text_writer.proofs.Putting.{loop_goes_on, loop_begins, puts_is}
use Rattle.desk_texts.proofs.reply_lines.put_block_lines.Goals as goal

pub loop-place-init : goal.loop-place-init
loop-place-init g c = loop_begins (reply_block_lines c.args.model.now c.args.layered.now 1 c.args.blocks.now)

pub put_block_line-requires-clause-block : goal.put_block_line-requires-clause-block
put_block_line-requires-clause-block g c =
    subst (IsBlockIn c.args.layered.now.q.width) (sym c.index-blocks-place.is)
    (c.requires.blocks c.loop-place.place c.index-blocks-place.result c.loop-place-test.true)

pub loop-place-preserved : goal.loop-place-preserved
loop-place-preserved g c =
    loop_goes_on (lines_left c.args.model.now c.args.layered.now c.args.blocks.now c.loop-place.place c.index-blocks-place.result
    c.loop-place-test.true) c.loop-place.invariant
    (puts_is (ap (reply_block_line c.args.model.now c.args.layered.now (c.loop-place.place + 1)) c.index-blocks-place.is) c.put_block_line.ensures)
