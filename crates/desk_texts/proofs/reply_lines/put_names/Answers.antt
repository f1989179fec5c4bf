use Rattle.desk_texts.specs.Texts.{names_text}
use Rattle.desk_texts.proofs.ReplyPieces.{names_left}
use Rattle.text_writer.proofs.Putting.{loop_goes_on, loop_begins}
use Rattle.desk_texts.proofs.reply_lines.put_names.Goals as goal

pub loop-column-init : goal.loop-column-init
loop-column-init g c = loop_begins (names_text c.args.model.now c.args.layered.now c.args.columns.now)

pub loop-column-preserved : goal.loop-column-preserved
loop-column-preserved g c =
    loop_goes_on (names_left c.args.model.now c.args.layered.now c.args.columns.now c.loop-column.column-index _
    c.loop-column-test.true) c.loop-column.invariant c.put_name.ensures
