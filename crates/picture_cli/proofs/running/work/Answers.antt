use Rattle.std.proofs.Common.{inl, refl}
use Rattle.cert_reader.specs.Limits.{certificate_limit}
use Rattle.cert_verdict.specs.Statuses.{IsUnaccepted}
use Rattle.picture_cli.specs.Answer.{IsPicture}
use Rattle.picture_cli.specs.Drawings.{drawing_in, drawing_text}
use Rattle.picture_cli.proofs.Runs.{picture-of}
use Rattle.run_ends.specs.declared.status.Status.TheVariants.{Done}
use Rattle.run_ends.proofs.Runs.{run-delivered, run-unread}
use Rattle.run_ends.proofs.Unread.{reads_so}
use Rattle.picture_cli.proofs.running.work.Goals as goal

pub returns-in-Ok : goal.returns-in-Ok
returns-in-Ok g c =
    let drawing = drawing_in c.in-Ok.drawing in
    let whole = reads_so certificate_limit (g.S.Source.left c.args.source.now) (g.S.Source.left c.read_drawing.new.source) _
    (λ input. IsPicture input Done (drawing_text drawing)) (λ input drawn. (refl, picture-of input drawing drawn)) c.in-Ok.ensures.right in
    run-delivered g.S.Source g.K.Sink certificate_limit IsUnaccepted IsPicture c.args.source.now c.read_drawing.new.source c.args.out.now
    c.in-Ok.drawing Done (inl refl) (drawing_text drawing) c.deliver.new.out c.deliver.result whole c.in-Ok.ensures.source
    c.deliver.ensures

pub returns-in-Err : goal.returns-in-Err
returns-in-Err g c =
    run-unread g.S.Source g.K.Sink certificate_limit IsUnaccepted IsPicture c.args.source.now c.read_drawing.new.source c.args.out.now
    c.in-Err.status c.in-Err.ensures.unread c.in-Err.ensures.source
