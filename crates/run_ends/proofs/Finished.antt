-- A text that was written or not, and then flushed or not.
use Rattle.std.proofs.Common.{◌≡◌, ◌+◌, ◌≤◌, ◌⊎◌, ℕ, List, [], length, Bool, true, Option, Result, Ok, Err, inl, inr, ap, arith, refl, subst, sym, ◌∙◌}
use Rattle.std.proofs.Common.{add-zero, append-nil, IsTrue}
use Rattle.std.specs.Io.KnownBytes.{Keeps}
use Rattle.port_io.specs.Causes.{one_more}
use Rattle.port_io.specs.declared.ports.Sink.{Ghosts}
use Rattle.port_io.specs.declared.writing.WriteFault.{WriteFault as Fault}
use Rattle.text_writer.specs.Giving.{IsWritten}
use Rattle.run_ends.specs.Runs.{HasDelivered}
use Rattle.run_ends.specs.Ways.{HasText}
use Rattle.run_ends.specs.declared.status.Status.{Status}
use Rattle.run_ends.specs.declared.status.Status.TheVariants.{WriteFault}
use Rattle.run_ends.proofs.Delivered.{delivered-at}
use Rattle.run_ends.proofs.Taking.{appended_kept}
use Rattle.run_ends.proofs.StatusFacts.{no-text-failed}

module _ {K : Type 0} (G : Ghosts K) (first last : K) (text : List ℕ) (end : Status) where
  whole-takes : G.takes first (length text) → G.takes first (length text + 0)
  whole-takes takes = subst (G.takes first) (sym (add-zero (length text))) takes

  failed-no-text : HasText WriteFault → ⊥
  failed-no-text has = no-text-failed WriteFault has refl

  -- the text was not written whole
  pub uncut : (fault : Fault) → IsWritten G first last text (Err fault) → HasDelivered G end text first last WriteFault
  uncut fault written = record {
    ends = (written.failed, written.part.has);
    counts = written.cause.later;
    told = λ not. absurd (not refl);
    one_flush = λ has. absurd (failed-no-text has);
    fault_flush = λ _. inl written.no_flush;
    calm = λ takes. (written.calm 0 (whole-takes takes)).0;
  }

  -- it was, and this is what the flush made of the sink
  module _ (flushed : K) (written : IsWritten G first last text (Ok tt)) (kept : Keeps (G.written last) (G.written flushed))
      (once : G.flushes flushed ≡ one_more (G.flushes last)) where
    once-more : G.flushes flushed ≡ one_more (G.flushes first)
    once-more = once ∙ ap one_more written.no_flush

    pub flushed-whole : HasText end → IsTrue (G.flushed flushed) → G.faults flushed ≡ G.faults last → HasDelivered G end text first flushed end
    flushed-whole has flush fine = record {
      ends = delivered-at end _ _ has (appended_kept (G.written first) (G.written last) (G.written flushed) text written.whole kept, flush);
      counts = omega (arith, written.cause.later, fine);
      told = λ _. fine ∙ written.cause.fine;
      one_flush = λ _. once-more;
      fault_flush = λ is. absurd (no-text-failed end has is);
      calm = λ takes. fine ∙ written.cause.fine;
    }

    pub unflushed : G.faults last ≤ G.faults flushed → G.faults flushed ≡ one_more (G.faults last) → G.failed flushed ≡ true →
        (G.takes last 0 → G.faults flushed ≡ G.faults last) → HasDelivered G end text first flushed WriteFault
    unflushed later rose failed calm = record {
      ends = (
        record { once = rose ∙ ap one_more written.cause.fine; last = failed },
        record {
          part = text;
          rest = [];
          appended = appended_kept (G.written first) (G.written last) (G.written flushed) text written.whole kept;
          prefix = sym (append-nil text);
        },
      );
      counts = omega (arith, written.cause.later, later);
      told = λ not. absurd (not refl);
      one_flush = λ has. absurd (failed-no-text has);
      fault_flush = λ _. inr once-more;
      calm = λ takes. let all = written.calm 0 (whole-takes takes) in calm all.2 ∙ all.0;
    }
