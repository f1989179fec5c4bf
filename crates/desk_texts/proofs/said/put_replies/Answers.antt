use Rattle.line_lexer.specs.Lines.{lines_of}
use Rattle.desk_texts.proofs.Talks.{said-all, said-more, said-none}
use Rattle.desk_texts.proofs.said.put_replies.Goals as goal

pub loop-line-init : goal.loop-line-init
loop-line-init g c = said-none g.F.Field.modulus c.args.desk.now (lines_of c.args.input.now) c.args.out.now

pub loop-line-preserved : goal.loop-line-preserved
loop-line-preserved g c =
    said-more g.F.Field.modulus c.args.desk.now (lines_of c.args.input.now) c.loop-line.desk (lines_of c.loop-line.rest.now)
    c.in-Some.line.now c.put_reply.new.desk (lines_of c.in-Some.others.now) c.args.out.now c.loop-line.out c.put_reply.new.out
    c.in-Some.ensures.lines c.loop-line.invariant c.in_ok-put_reply.ensures

pub returns : goal.returns
returns g c =
    said-all g.F.Field.modulus c.args.desk.now (lines_of c.args.input.now) c.loop-line.desk (lines_of c.loop-line.rest.now)
    c.args.out.now c.loop-line.out c.in_default.ensures.lines c.loop-line.invariant
