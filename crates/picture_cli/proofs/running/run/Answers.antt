use Rattle.cert_reader.specs.Limits.{certificate_limit}
use Rattle.port_io.proofs.Faults.{rose}
use Rattle.cert_verdict.specs.Statuses.{IsUnaccepted}
use Rattle.picture_cli.specs.Answer.{IsPicture}
use Rattle.picture_cli.proofs.Runs.{one-answer}
use Rattle.run_ends.proofs.Wholes.{only}
use Rattle.picture_cli.proofs.running.run.Goals as goal

pub returns-clause-only_answer : goal.returns-clause-only_answer
returns-clause-only_answer g c = λ quiet calm input answer text is given.
    only certificate_limit IsUnaccepted IsPicture (g.S.Source.left c.args.source.now) (g.S.Source.left c.work-status.new.source)
    (g.K.Sink.written c.args.out.now) (g.K.Sink.written c.work-status.new.out) input is (one-answer input) c.work-status.result
    c.work-status.ensures.answered c.work-status.ensures.ended
    (λ e. quiet (rose (c.work-status.ensures.read_fault e))) (λ e. calm (rose (c.work-status.ensures.write_fault e).0)) answer text given
