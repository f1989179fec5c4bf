use Rattle.std.proofs.Common.{refl}
use Rattle.command_line.specs.Words.{format_of}
use Rattle.report_cli.specs.Answer.{IsOutputText}
use Rattle.report_cli.specs.Formats.{IsFault, limit_of}
use Rattle.report_cli.specs.Outputs.{end_of, output_text}
use Rattle.report_cli.proofs.Outputs.{has-text, writable}
use Rattle.run_ends.proofs.Runs.{run-delivered, run-unread}
use Rattle.run_ends.proofs.Unread.{reads_so}
use Rattle.report_cli.proofs.running.work_over.Goals as goal

pub deliver_whole-requires : goal.deliver_whole-requires
deliver_whole-requires g c =
    let whole = c.in-Ok.ensures.right in
    writable g.F.Field.number g.F.Field.modulus c.args.command whole.input c.in-Ok.output c.requires whole.holds

pub returns-in-Ok : goal.returns-in-Ok
returns-in-Ok g c =
    let number = g.F.Field.number in
    let p = g.F.Field.modulus in
    let most = limit_of (format_of c.args.command) in
    let output = c.in-Ok.output in
    let whole = reads_so most (g.S.Source.left c.args.source.now) (g.S.Source.left c.read.new.source) _
    (λ input. IsOutputText number p c.args.command input (end_of output) (output_text number output))
    (λ input right. record { output = output; right = right; ends = refl; text_is = refl }) c.in-Ok.ensures.right in
    run-delivered g.S.Source g.K.Sink most (IsFault p (format_of c.args.command)) (IsOutputText number p c.args.command)
    c.args.source.now c.read.new.source c.args.out.now output (end_of output) (has-text output) (output_text number output)
    c.deliver_whole.new.out c.deliver_whole.result whole c.in-Ok.ensures.source c.deliver_whole.ensures

pub returns-in-Err : goal.returns-in-Err
returns-in-Err g c =
    let number = g.F.Field.number in
    let p = g.F.Field.modulus in
    run-unread g.S.Source g.K.Sink (limit_of (format_of c.args.command)) (IsFault p (format_of c.args.command))
    (IsOutputText number p c.args.command) c.args.source.now c.read.new.source c.args.out.now c.in-Err.status
    c.in-Err.ensures.unread c.in-Err.ensures.source
