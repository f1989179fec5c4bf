use Rattle.cert_text.specs.Texts.{numbers_text}
use Rattle.cert_text.proofs.Pieces.{numbers_left}
use Rattle.text_writer.proofs.Putting.{loop_goes_on, loop_begins}
use Rattle.cert_text.proofs.lists.put_numbers.Goals as goal

pub loop-number-init : goal.loop-number-init
loop-number-init g c = loop_begins (numbers_text c.args.numbers.now)

pub loop-number-preserved : goal.loop-number-preserved
loop-number-preserved g c =
    loop_goes_on (numbers_left c.args.numbers.now c.loop-number.number-index _ c.loop-number-test.true) c.loop-number.invariant c.number.ensures
