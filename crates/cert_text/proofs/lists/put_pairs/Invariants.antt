use Rattle.std.proofs.Common.{drop}
use Rattle.cert_text.specs.Texts.{pairs_text}
use Rattle.text_writer.specs.Texts.{PutsUpTo}
use Rattle.cert_text.proofs.lists.put_pairs.Given as goal

abbrev pub invariant-loop-pair : goal.invariant-loop-pair
invariant-loop-pair g l =
    PutsUpTo g.K.Sink l.initial.out l.out (pairs_text l.pairs) (pairs_text (drop l.pair-index l.pairs))
