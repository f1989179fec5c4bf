use Rattle.std.proofs.Common.{drop, ◌+◌}
use Rattle.cert_text.specs.Texts.{blocks_text}
use Rattle.text_writer.specs.Texts.{PutsUpTo}
use Rattle.cert_text.proofs.lines.put_blocks.Given as goal

abbrev pub invariant-loop-place : goal.invariant-loop-place
invariant-loop-place g l =
    PutsUpTo g.K.Sink l.initial.out l.out (blocks_text 1 l.blocks) (blocks_text (l.place + 1) (drop l.place l.blocks))
