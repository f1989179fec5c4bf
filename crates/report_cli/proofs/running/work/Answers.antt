use Rattle.std.proofs.Common.{ap, subst, sym, ◌∙◌}
use Rattle.command_line.specs.Words.{format_of}
use Rattle.residue_field.specs.Modulus.{modulus_of}
use Rattle.report_cli.specs.Answer.{IsAnswerOver}
use Rattle.report_cli.specs.Formats.{limit_of}
use Rattle.run_ends.specs.Runs.{HasRunOver}
use Rattle.report_cli.proofs.running.work.Goals as goal

pub returns-in-Small : goal.returns-in-Small
returns-in-Small g c =
    subst
    (λ p. HasRunOver g.S.Source g.K.Sink (limit_of (format_of c.args.command)) (IsAnswerOver (λ value. value) p c.args.command)
    c.args.source.now c.work_over.new.source c.args.out.now c.work_over.new.out c.work_over.result)
    (ap modulus_of (sym c.in-Small.is ∙ c.field.ensures)) c.work_over.ensures

pub returns-in-Large : goal.returns-in-Large
returns-in-Large g c =
    subst
    (λ p. HasRunOver g.S.Source g.K.Sink (limit_of (format_of c.args.command)) (IsAnswerOver (λ value. value) p c.args.command)
    c.args.source.now c.work_over-in-Large.new.source c.args.out.now c.work_over-in-Large.new.out c.work_over-in-Large.result)
    (ap modulus_of (sym c.in-Large.is ∙ c.field.ensures)) c.work_over-in-Large.ensures
