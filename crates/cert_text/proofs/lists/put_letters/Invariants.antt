use Rattle.std.proofs.Common.{drop}
use Rattle.cert_text.specs.Texts.{letters_text}
use Rattle.text_writer.specs.Texts.{PutsUpTo}
use Rattle.cert_text.proofs.lists.put_letters.Given as goal

abbrev pub invariant-loop-row : goal.invariant-loop-row
invariant-loop-row g l =
    PutsUpTo g.K.Sink l.initial.out l.out (letters_text l.letter l.rows) (letters_text l.letter (drop l.row-index l.rows))
