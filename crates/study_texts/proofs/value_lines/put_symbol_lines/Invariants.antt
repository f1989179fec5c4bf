use Rattle.std.proofs.Common.{drop}
use Rattle.text_writer.specs.Texts.{PutsUpTo}
use Rattle.study_texts.specs.ValueTexts.{symbol_lines}
use Rattle.study_texts.proofs.value_lines.put_symbol_lines.Given as goal

abbrev pub invariant-loop-at : goal.invariant-loop-at
invariant-loop-at g l = PutsUpTo g.K.Sink l.initial.out l.out (symbol_lines g.F.Field.number l.model l.values)
    (symbol_lines g.F.Field.number l.model (drop l.at-index l.values))
