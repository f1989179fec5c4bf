use Rattle.std.proofs.Common.{[]}
use Rattle.std.proofs.lemmas.Result.{IfOk-weaker}
use Rattle.problem_heads.proofs.head.read_lines.Goals as goal

pub returns-clause-read : goal.returns-clause-read
returns-clause-read g c = IfOk-weaker c.finish.result _ _
    (λ lines h. h c.args.text.now (c.in_ok-feed.ensures [] c.new.ensures c.requires.few)) c.finish.ensures.read
