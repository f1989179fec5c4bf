use Rattle.std.proofs.Common.{ap, ◌+◌}
use Rattle.cert_text.specs.Contents.{numbered}
use Rattle.cert_text.specs.Texts.{entries_text, item}
use Rattle.cert_text.proofs.Pieces.{entries_left}
use Rattle.text_writer.proofs.Putting.{loop_goes_on, loop_begins, puts_is}
use Rattle.cert_text.proofs.lists.put_entries.Goals as goal

pub loop-entry-init : goal.loop-entry-init
loop-entry-init g c = loop_begins (entries_text (numbered g.F.Field.number c.args.entries.now))

pub loop-entry-preserved : goal.loop-entry-preserved
loop-entry-preserved g c =
    loop_goes_on (entries_left g.F.Field.number c.args.entries.now c.loop-entry.entry-index c.entry-item.result
    c.loop-entry-test.true) c.loop-entry.invariant
    (puts_is (ap (λ z. item (z.0 + 1) (g.F.Field.number z.1)) c.entry-item.is) c.put_entry.ensures)
