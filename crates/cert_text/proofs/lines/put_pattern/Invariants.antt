use Rattle.std.proofs.Common.{drop, ◌+◌}
use Rattle.cert_text.specs.Texts.{pattern_text}
use Rattle.text_writer.specs.Texts.{PutsUpTo}
use Rattle.cert_text.proofs.lines.put_pattern.Given as goal

abbrev pub invariant-loop-row : goal.invariant-loop-row
invariant-loop-row g l =
    PutsUpTo g.K.Sink l.initial.out l.out (pattern_text l.word 1 l.rows) (pattern_text l.word (l.row + 1) (drop l.row l.rows))
