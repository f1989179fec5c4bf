use Rattle.std.proofs.Common.{drop}
use Rattle.text_writer.specs.Texts.{PutsUpTo}
use Rattle.desk_texts.specs.Texts.{names_text}
use Rattle.desk_texts.proofs.reply_lines.put_names.Given as goal

abbrev pub invariant-loop-column : goal.invariant-loop-column
invariant-loop-column g l =
    PutsUpTo g.K.Sink l.initial.out l.out (names_text l.model l.layered l.columns) (names_text l.model l.layered (drop l.column-index l.columns))
