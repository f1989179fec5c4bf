-- Bytes that are given to a sink until it fails.
use Rattle.std.proofs.Common.{◌≡◌, ℕ, ◌+◌, ◌≤◌, Bool, true, false, List, [], ◌++◌, length, take, drop, append_assoc}
use Rattle.std.proofs.Common.{append-nil, length-append, Result, Ok, Err, OnOk, IfErr, refl, ap, sym, subst, ◌∙◌, arith}
use Rattle.std.proofs.lemmas.List.{length-take-le, take-append-drop}
use Rattle.port_io.specs.Bytes.{Appended}
use Rattle.port_io.specs.Causes.{FailedLast, HasCause, shown}
use Rattle.port_io.specs.declared.ports.Sink.{Ghosts}
use Rattle.port_io.specs.declared.writing.WriteFault.{WriteFault}
use Rattle.port_io.proofs.Chains.{appended_nothing, appended_more, appended_is}
use Rattle.text_writer.specs.Giving.{HasGiven, Gives, IsWritten, nothing_given}
use Rattle.text_writer.specs.declared.progress.Progress.{Progress}

pub not_both : {b : Bool} → b ≡ true → b ≡ false → ⊥
not_both {b} on off = cc

-- a sink that takes a text and more takes the text, and then what is behind it
takes_on : {S : Type 0} (takes : S → ℕ → Type 0) (sink : S) (text bytes : List ℕ) (more : ℕ) →
    takes sink (length (text ++ bytes) + more) → takes sink (length text + (length bytes + more))
takes_on {S} takes sink text bytes more h = subst (takes sink) (omega (arith, length-append text bytes)) h

module _ {S : Type 0} {K : Ghosts S} where
  pub given_nothing : (sink : S) → HasGiven K sink sink nothing_given []
  given_nothing sink = record {
    has = record { part = []; rest = []; appended = appended_nothing (K.written sink); prefix = refl };
    counted = omega arith;
    fine = λ _. (refl, refl);
    later = omega arith;
    failed = λ on. absurd (not_both on refl);
    no_flush = refl;
    calm = λ more takes. (refl, subst (K.takes sink) (omega arith) takes);
  }

  -- once a call has failed, nothing more is given
  pub gives_none : (sink : S) (progress : Progress) (bytes : List ℕ) → progress.failed ≡ true → Gives K sink progress sink progress bytes
  gives_none sink progress bytes on = λ first text given. record {
    has = record {
      part = given.has.part;
      rest = given.has.rest ++ bytes;
      appended = given.has.appended;
      prefix = ap (λ z. z ++ bytes) given.has.prefix ∙ append_assoc given.has.part given.has.rest bytes;
    };
    counted = given.counted;
    fine = λ off. absurd (not_both on off);
    later = given.later;
    failed = given.failed;
    no_flush = given.no_flush;
    calm = λ more takes. absurd (not_both on (given.calm (length bytes + more) (takes_on K.takes first text bytes more takes)).0);
  }

  -- where no call has failed, the sink has all
  has_all : (first sink : S) (progress : Progress) (text : List ℕ) → progress.failed ≡ false →
      (given : HasGiven K first sink progress text) → text ≡ given.has.part
  has_all first sink progress text off given = given.has.prefix ∙ ap (λ z. given.has.part ++ z) (given.fine off).0 ∙ append-nil given.has.part

  -- a sink took all bytes
  pub gives_all : (sink after : S) (progress next : Progress) (bytes : List ℕ) → progress.failed ≡ false → next.failed ≡ false →
      next.handed ≡ shown (progress.handed + length bytes) → Appended (K.written sink) (K.written after) bytes →
      K.faults after ≡ K.faults sink → K.flushes after ≡ K.flushes sink →
      ((more : ℕ) → K.takes sink (length bytes + more) → K.takes after more) → Gives K sink progress after next bytes
  gives_all sink after progress next bytes off still counted appended faults flushes takes = λ first text given. record {
    has = record {
      part = given.has.part ++ bytes;
      rest = [];
      appended = appended_more (K.written first) (K.written sink) (K.written after) given.has.part bytes given.has.appended appended;
      prefix = ap (λ z. z ++ bytes) (has_all first sink progress text off given) ∙ sym (append-nil (given.has.part ++ bytes));
    };
    counted = omega (arith, counted, given.counted, length-append given.has.part bytes);
    fine = λ _. (refl, faults ∙ (given.fine off).1);
    later = omega (arith, faults, given.later);
    failed = λ on. absurd (not_both on still);
    no_flush = flushes ∙ given.no_flush;
    calm = λ more h. (still, takes more (given.calm (length bytes + more) (takes_on K.takes first text bytes more h)).1);
  }

  -- a sink took some bytes, and failed
  pub gives_some : (sink after : S) (progress next : Progress) (bytes : List ℕ) (count : ℕ) → progress.failed ≡ false → next.failed ≡ true →
      count ≤ length bytes → next.handed ≡ shown (progress.handed + count) → Appended (K.written sink) (K.written after) (take count bytes) →
      HasCause {T = Unit {0}} {E = WriteFault} (K.faults sink) (K.faults after) (Err (record { written = count })) →
      FailedLast (K.faults sink) (K.faults after) (K.failed after) → K.flushes after ≡ K.flushes sink →
      ((more : ℕ) → K.takes sink (length bytes + more) → ⊥) → Gives K sink progress after next bytes
  gives_some sink after progress next bytes count off on within counted appended cause last flushes takes = λ first text given. record {
    has = record {
      part = given.has.part ++ take count bytes;
      rest = drop count bytes;
      appended = appended_more (K.written first) (K.written sink) (K.written after) given.has.part (take count bytes) given.has.appended appended;
      prefix =
          ap (λ z. z ++ bytes) (has_all first sink progress text off given)
          ∙ ap (λ z. given.has.part ++ z) (sym (take-append-drop count bytes))
          ∙ sym (append_assoc given.has.part (take count bytes) (drop count bytes));
    };
    counted = omega (arith, counted, given.counted, length-append given.has.part (take count bytes), length-take-le count bytes within);
    fine = λ no. absurd (not_both on no);
    later = omega (arith, cause.later, given.later);
    failed = λ _. subst (λ f. FailedLast f (K.faults after) (K.failed after)) (given.fine off).1 last;
    no_flush = flushes ∙ given.no_flush;
    calm = λ more h. absurd (takes more (given.calm (length bytes + more) (takes_on K.takes first text bytes more h)).1);
  }

  -- what was given is written, as the progress tells
  pub given_written : (first sink : S) (progress : Progress) (text : List ℕ) (result : Result (Unit {0}) WriteFault) →
      HasGiven K first sink progress text → OnOk result (progress.failed ≡ false) →
      IfErr result (λ fault. (progress.failed ≡ true) × (fault.written ≡ progress.handed)) → IsWritten K first sink text result
  given_written first sink progress text (Ok v) given off on = record {
    whole = appended_is (K.written first) (K.written sink) given.has.part text (sym (has_all first sink progress text off given)) given.has.appended;
    part = tt;
    cause = record { later = given.later; fine = (given.fine off).1; failed = tt };
    failed = tt;
    no_flush = given.no_flush;
    calm = λ more takes. ((given.fine off).1, refl, (given.calm more takes).1);
  }
  given_written first sink progress text (Err fault) given off on = record {
    whole = tt;
    part = record { has = given.has; counted = on.1 ∙ given.counted };
    cause = record { later = given.later; fine = tt; failed = (given.failed on.0).once };
    failed = given.failed on.0;
    no_flush = given.no_flush;
    calm = λ more takes. absurd (not_both on.0 (given.calm more takes).0);
  }
