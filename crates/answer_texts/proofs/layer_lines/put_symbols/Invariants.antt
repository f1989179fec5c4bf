use Rattle.std.proofs.Common.{drop}
use Rattle.cert_text.specs.Texts.{numbers_text}
use Rattle.text_writer.specs.Texts.{PutsUpTo}
use Rattle.answer_texts.proofs.layer_lines.put_symbols.Given as goal

abbrev pub invariant-loop-column : goal.invariant-loop-column
invariant-loop-column g l =
    PutsUpTo g.K.Sink l.initial.out l.out (numbers_text l.columns) (numbers_text (drop l.column-index l.columns))
