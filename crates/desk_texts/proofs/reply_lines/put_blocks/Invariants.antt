use Rattle.std.proofs.Common.{drop}
use Rattle.text_writer.specs.Texts.{PutsUpTo}
use Rattle.desk_texts.specs.Texts.{lower_blocks_text}
use Rattle.desk_texts.proofs.reply_lines.put_blocks.Given as goal

abbrev pub invariant-loop-block : goal.invariant-loop-block
invariant-loop-block g l = PutsUpTo g.K.Sink l.initial.out l.out (lower_blocks_text l.blocks) (lower_blocks_text (drop l.block-index l.blocks))
