use Rattle.std.proofs.Common.{subst}
use Rattle.text_writer.specs.Giving.{IsWritten}
use Rattle.run_ends.proofs.Finished.{flushed-whole, uncut, unflushed}
use Rattle.run_ends.proofs.ending.finish.Goals as goal

pub returns-in-Err : goal.returns-in-Err
returns-in-Err g c = λ first text written.
    uncut g.K.Sink first c.args.out.now text c.args.end c.in-Err.field-0
    (subst (λ wrote. IsWritten g.K.Sink first c.args.out.now text wrote) c.in-Err.is written)

pub returns-in-Err-flush : goal.returns-in-Err-flush
returns-in-Err-flush g c = λ first text written.
    let flush = c.in-Err-flush.ensures in
    unflushed g.K.Sink first c.args.out.now text c.args.end c.flush.new.self
    (subst (λ wrote. IsWritten g.K.Sink first c.args.out.now text wrote) c.in-Ok.is written)
    flush.same flush.one_flush flush.cause.later flush.cause.failed flush.failed (λ takes. (flush.steady 0 takes).1)

pub returns-in-Ok-flush : goal.returns-in-Ok-flush
returns-in-Ok-flush g c = λ first text written.
    let flush = c.in-Ok-flush.ensures in
    flushed-whole g.K.Sink first c.args.out.now text c.args.end c.flush.new.self
    (subst (λ wrote. IsWritten g.K.Sink first c.args.out.now text wrote) c.in-Ok.is written)
    flush.same flush.one_flush c.requires flush.flushed flush.cause.fine
