use Rattle.std.proofs.Common.{drop, ◌+◌}
use Rattle.text_writer.specs.Texts.{PutsUpTo}
use Rattle.desk_texts.specs.Texts.{reply_block_lines}
use Rattle.desk_texts.proofs.reply_lines.put_block_lines.Given as goal

abbrev pub invariant-loop-place : goal.invariant-loop-place
invariant-loop-place g l =
    PutsUpTo g.K.Sink l.initial.out l.out (reply_block_lines l.model l.layered 1 l.blocks)
    (reply_block_lines l.model l.layered (l.place + 1) (drop l.place l.blocks))
