use Rattle.std.proofs.Common.{subst, sym}
use Rattle.report_cli.specs.Outputs.{output_text}
use Rattle.run_ends.specs.Runs.{HasDelivered}
use Rattle.run_ends.specs.Ways.{HasText}
use Rattle.report_cli.proofs.Outputs.{has-text}
use Rattle.report_cli.proofs.running.deliver.Goals as goal

pub finish-requires : goal.finish-requires
finish-requires g c = subst HasText (sym c.status.ensures) (has-text c.args.output.now)

pub returns : goal.returns
returns g c =
    let text = output_text g.F.Field.number c.args.output.now in
    subst (λ end. HasDelivered g.K.Sink end text c.args.out.now c.finish.new.out c.finish.result) c.status.ensures
    (c.finish.ensures c.args.out.now text c.write-wrote.ensures)
