use Rattle.std.proofs.Common.{drop}
use Rattle.cert_text.specs.Contents.{numbered}
use Rattle.cert_text.specs.Texts.{entries_text}
use Rattle.text_writer.specs.Texts.{PutsUpTo}
use Rattle.cert_text.proofs.lists.put_entries.Given as goal

abbrev pub invariant-loop-entry : goal.invariant-loop-entry
invariant-loop-entry g l =
    PutsUpTo g.K.Sink l.initial.out l.out (entries_text (numbered g.F.Field.number l.entries))
    (entries_text (numbered g.F.Field.number (drop l.entry-index l.entries)))
