use Rattle.cert_text.specs.Texts.{letters_text}
use Rattle.cert_text.proofs.Pieces.{letters_left}
use Rattle.text_writer.proofs.Putting.{loop_goes_on, loop_begins}
use Rattle.cert_text.proofs.lists.put_letters.Goals as goal

pub loop-row-init : goal.loop-row-init
loop-row-init g c = loop_begins (letters_text c.args.letter c.args.rows.now)

pub loop-row-preserved : goal.loop-row-preserved
loop-row-preserved g c =
    loop_goes_on (letters_left c.args.letter c.args.rows.now c.loop-row.row-index _ c.loop-row-test.true) c.loop-row.invariant c.put_lettered.ensures
