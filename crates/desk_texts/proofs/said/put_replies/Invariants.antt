use Rattle.std.proofs.Common.{length}
use Rattle.line_lexer.specs.Lines.{lines_of}
use Rattle.desk_texts.proofs.Talks.{HasSaid}
use Rattle.desk_texts.proofs.said.put_replies.Given as goal

abbrev pub invariant-loop-line : goal.invariant-loop-line
invariant-loop-line g l =
    HasSaid g.K.Sink g.F.Field.modulus l.initial.desk (lines_of l.input) l.desk (lines_of l.rest) l.initial.out l.out

abbrev pub decreases-loop-line : goal.decreases-loop-line
decreases-loop-line g l = length l.rest
