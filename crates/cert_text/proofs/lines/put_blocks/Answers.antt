use Rattle.std.proofs.Common.{ap, sym, subst, ◌+◌, arith}
use Rattle.cert_text.specs.Texts.{block_line}
use Rattle.cert_text.proofs.Pieces.{blocks_left}
use Rattle.text_writer.proofs.Putting.{loop_goes_on, puts_is}
use Rattle.cert_text.specs.Ranges.{IsSmallBlock}
use Rattle.cert_text.proofs.Smallness.{small_block}
use Rattle.cert_text.proofs.lines.put_blocks.Goals as goal

pub loop-place-preserved : goal.loop-place-preserved
loop-place-preserved g c = loop_goes_on
    (blocks_left c.args.blocks.now c.loop-place.place c.index-blocks-place.result c.loop-place-test.true)
    c.loop-place.invariant (puts_is (ap (block_line (c.loop-place.place + 1)) (c.index-blocks-place.is))
    c.put_block.ensures)

pub put_block-requires : goal.put_block-requires
put_block-requires g c =
    let at = c.requires c.loop-place.place c.index-blocks-place.result c.loop-place-test.true in
    subst IsSmallBlock (sym c.index-blocks-place.is) (small_block c.loop-place.place (omega arith) _ at.0 at.1)
