use Rattle.std.proofs.lemmas.Result.{IfOk-weaker}
use Rattle.clap.specs.Words.{app_of}
use Rattle.command_line.proofs.Lines.{studies_line}
use Rattle.command_line.proofs.command_line.with_studies.Goals as goal

pub returns : goal.returns
returns c = IfOk-weaker c.and_study-4.result _ _
    (λ whole is. studies_line (app_of c.args.command) _ _ _ (app_of whole) c.in_ok-values.ensures c.in_ok-solve.ensures
    c.in_ok-repair.ensures is)
    c.and_study-4.ensures
