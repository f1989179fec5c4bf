use Rattle.std.proofs.Common.{unwrap_or, ap, ◌∙◌}
use Rattle.problem_heads.proofs.AttachSteps.{sides-more}
use Rattle.problem_heads.proofs.lines.HeadLines.sides.Goals as goal

pub loop-i-preserved : goal.loop-i-preserved
loop-i-preserved g c =
    c.in_ok-push.ensures.items
    ∙ sides-more c.args.self.now.numbers c.args.default c.args.model.now.equations c.loop-i.i c.equation_name.result.now c.loop-i.sides.items
    c.unwrap_or.result c.equation_name.ensures c.loop-i.invariant
    (c.unwrap_or.ensures ∙ ap (λ found. unwrap_or found c.args.default) c.in_ok-found.ensures)
