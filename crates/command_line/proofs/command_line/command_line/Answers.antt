use Rattle.std.proofs.lemmas.Result.{IfOk-weaker}
use Rattle.command_line.proofs.Lines.{whole_line}
use Rattle.command_line.proofs.command_line.command_line.Goals as goal

pub returns : goal.returns
returns c = IfOk-weaker c.with_studies.result _ _
    (λ whole is. whole_line _ _ _ _ _ _ _ _ _ c.bare_line.ensures c.in_ok-analyse.ensures c.in_ok-layer.ensures
    c.in_ok-report.ensures c.in_ok-plan.ensures c.in_ok-check.ensures c.in_ok-make.ensures c.in_ok-edit.ensures is)
    c.with_studies.ensures
