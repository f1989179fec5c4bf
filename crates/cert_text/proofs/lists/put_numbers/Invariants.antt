use Rattle.std.proofs.Common.{drop}
use Rattle.cert_text.specs.Texts.{numbers_text}
use Rattle.text_writer.specs.Texts.{PutsUpTo}
use Rattle.cert_text.proofs.lists.put_numbers.Given as goal

abbrev pub invariant-loop-number : goal.invariant-loop-number
invariant-loop-number g l =
    PutsUpTo g.K.Sink l.initial.out l.out (numbers_text l.numbers) (numbers_text (drop l.number-index l.numbers))
