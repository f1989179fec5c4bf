use Rattle.std.proofs.Common.{subst, sym}
use Rattle.limits.specs.Limits.{input_limit}
use Rattle.report_cli.specs.Outputs.{IsOutputFor}
use Rattle.command_line.specs.declared.command.Command.TheVariants.{OfModel}
use Rattle.run_ends.proofs.Unread.{reads_so}
use Rattle.report_cli.proofs.output.Output.of_model.Goals as goal

pub returns-in_ok-layers-in-Layer-clause-right : goal.returns-in_ok-layers-in-Layer-clause-right
returns-in_ok-layers-in-Layer-clause-right g c =
    let kind = c.args.kind in
    reads_so input_limit (g.S.Source.left c.args.source.now) (g.S.Source.left c.read_input.new.source) _ _
    (λ input gives. subst (λ task. IsOutputFor g.F.Field.number g.F.Field.modulus (OfModel task kind c.args.named) input c.in_ok-layers-in-Layer.field-0)
    (sym c.in-Layer.is)
    (c.in_ok-layers-in-Layer.ensures kind c.args.named input gives))
    c.in_ok-model-in-Layer.ensures.read

pub returns-in_ok-report-in-Report-clause-right : goal.returns-in_ok-report-in-Report-clause-right
returns-in_ok-report-in-Report-clause-right g c =
    let kind = c.args.kind in
    reads_so input_limit (g.S.Source.left c.args.source.now) (g.S.Source.left c.read_input-in-Report.new.source) _ _
    (λ input gives. subst (λ task. IsOutputFor g.F.Field.number g.F.Field.modulus (OfModel task kind c.args.named) input c.in_ok-report-in-Report.field-0)
    (sym c.in-Report.is)
    (c.in_ok-report-in-Report.ensures kind c.args.named input gives))
    c.in_ok-model-in-Report.ensures.read

pub returns-in_ok-plan-in-Plan-clause-right : goal.returns-in_ok-plan-in-Plan-clause-right
returns-in_ok-plan-in-Plan-clause-right g c =
    let kind = c.args.kind in
    reads_so input_limit (g.S.Source.left c.args.source.now) (g.S.Source.left c.read_input-in-Plan.new.source) _ _
    (λ input gives. subst (λ task. IsOutputFor g.F.Field.number g.F.Field.modulus (OfModel task kind c.args.named) input c.in_ok-plan-in-Plan.field-0)
    (sym c.in-Plan.is)
    (c.in_ok-plan-in-Plan.ensures kind c.args.named input gives))
    c.in_ok-model-in-Plan.ensures.read
