use Rattle.std.proofs.Common.{refl, arith}
use Rattle.text_writer.proofs.Giving.{not_both, gives_none, gives_all, gives_some}
use Rattle.text_writer.proofs.progress.Progress.give.Goals as goal

pub returns-then-self : goal.returns-then-self
returns-then-self g c = gives_none c.args.out.now c.args.self.now c.args.bytes.now c.if-self.true

pub returns-in-Ok : goal.returns-in-Ok
returns-in-Ok g c =
    gives_all c.args.out.now _ c.args.self.now _ c.args.bytes.now c.if-self.false c.if-self.false (omega (arith, c.saturating_add-self.ensures))
    c.in-Ok.ensures.all c.in-Ok.ensures.cause.fine c.in-Ok.ensures.no_flush (λ more takes. (c.in-Ok.ensures.steady more takes).2)

pub returns-in-Err : goal.returns-in-Err
returns-in-Err g c =
    gives_some c.args.out.now _ c.args.self.now _ c.args.bytes.now c.in-Err.fault.written c.if-self.false refl c.in-Err.ensures.within
    (omega (arith, c.saturating_add-self-in-Err.ensures)) c.in-Err.ensures.part c.in-Err.ensures.cause c.in-Err.ensures.last c.in-Err.ensures.no_flush
    (λ more takes. absurd (not_both (c.in-Err.ensures.steady more takes).1 refl))
