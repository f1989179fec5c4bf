use Rattle.std.proofs.Common.{◌≡◌, subst, sym}
use Rattle.cert_reader.specs.Limits.{certificate_limit}
use Rattle.cert_verdict.specs.Accepted.{accepted_in}
use Rattle.cert_verdict.specs.Statuses.{IsUnaccepted}
use Rattle.picture_cli.specs.Answer.{IsDrawnFor}
use Rattle.picture_cli.specs.Drawings.{drawing_in}
use Rattle.picture_cli.proofs.Runs.{drawn-for}
use Rattle.run_ends.specs.Reading.{IsUnread}
use Rattle.run_ends.specs.declared.status.Status.TheVariants.{Memory}
use Rattle.run_ends.proofs.Unread.{reads_so, with_status}
use Rattle.picture_cli.proofs.drawing.read_drawing.Goals as goal

pub returns-clause-right : goal.returns-clause-right
returns-clause-right g c =
    let drawing = drawing_in c.in_ok-place_any.field-0 in
    let drawn = drawn-for c.in_ok-text.text.items (accepted_in c.in_ok-accepted.accepted) drawing c.in_ok-accepted.ensures.accepted
    c.in_ok-place_any.ensures in
    reads_so certificate_limit (g.S.Source.left c.args.source.now) (g.S.Source.left c.read_text.new.source)
    (λ input. input ≡ c.in_ok-text.text.items) (λ input. IsDrawnFor input drawing)
    (λ input is. subst (λ text. IsDrawnFor text drawing) (sym is) drawn) c.in_ok-text.ensures.read

pub returns-in_err-place_any-clause-unread : goal.returns-in_err-place_any-clause-unread
returns-in_err-place_any-clause-unread g c =
    let whole = c.in_ok-text.ensures.read in
    with_status
    (λ status. IsUnread certificate_limit IsUnaccepted status (g.S.Source.left c.args.source.now) (g.S.Source.left c.read_text.new.source))
    c.from_residual-in_err-place_any.result
    Memory
    c.from_residual-in_err-place_any.ensures.0
    c.from_residual-in_err-place_any.ensures.1
    (whole.input, whole.short, whole.took)
