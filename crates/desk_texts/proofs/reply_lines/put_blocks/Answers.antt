use Rattle.desk_texts.specs.Texts.{lower_blocks_text}
use Rattle.desk_texts.proofs.ReplyPieces.{blocks_left}
use Rattle.text_writer.proofs.Putting.{loop_goes_on, loop_begins}
use Rattle.desk_texts.proofs.reply_lines.put_blocks.Goals as goal

pub loop-block-init : goal.loop-block-init
loop-block-init g c = loop_begins (lower_blocks_text c.args.blocks.now)

pub loop-block-preserved : goal.loop-block-preserved
loop-block-preserved g c =
    loop_goes_on (blocks_left c.args.blocks.now c.loop-block.block-index _ c.loop-block-test.true) c.loop-block.invariant c.number.ensures
