use Rattle.cert_text.specs.Texts.{pairs_text}
use Rattle.cert_text.proofs.Pieces.{pairs_left}
use Rattle.text_writer.proofs.Putting.{loop_goes_on, loop_begins}
use Rattle.cert_text.proofs.lists.put_pairs.Goals as goal

pub loop-pair-init : goal.loop-pair-init
loop-pair-init g c = loop_begins (pairs_text c.args.pairs.now)

pub loop-pair-preserved : goal.loop-pair-preserved
loop-pair-preserved g c =
    loop_goes_on (pairs_left c.args.pairs.now c.loop-pair.pair-index _ c.loop-pair-test.true) c.loop-pair.invariant c.item.ensures
