-- What a run makes of its streams, by what was read and what was delivered.
use Rattle.std.proofs.Common.{◌≡◌, ℕ, List, Result, Ok, Err, ap, arith, refl, sym, ◌∙◌}
use Rattle.port_io.specs.declared.ports.Sink.{Ghosts as SinkGhosts}
use Rattle.port_io.specs.declared.ports.Source.{Ghosts as SourceGhosts}
use Rattle.run_ends.specs.Answers.{IsAnswerBy}
use Rattle.run_ends.specs.Reading.{IsUnread, ReadsWhole, TellsOfSource}
use Rattle.run_ends.specs.Runs.{HasDelivered, HasRunOver}
use Rattle.run_ends.specs.Ways.{HasText}
use Rattle.run_ends.specs.declared.status.Status.{Status}
use Rattle.run_ends.specs.declared.status.Status.TheVariants.{ReadFault}
use Rattle.run_ends.proofs.Delivered.{answered-by, cut-by, delivered-so, delivered-whole, fits}
use Rattle.run_ends.proofs.StatusFacts.{not-read-fault, not-usage, reads-of, takes-whole, writes-of, writes-something}
use Rattle.run_ends.proofs.Unread.{answered, unread-answered, unread-asked, unread-ended, unread-no-text, unread-taken, unread-unwritten}

error_is : {T : Type 0} {result : Result T Status} {a b : Status} → result ≡ Err a → result ≡ Err b → a ≡ b
error_is is are = let both = sym is ∙ are in cc

module _ {S K : Type 0} (H : SourceGhosts S) (G : SinkGhosts K) (most : ℕ) (Faulty : List ℕ → Status → Type 0)
    (Text : List ℕ → Status → List ℕ → Type 0) (source source' : S) (out : K) where
  -- nothing is written of an input that gives nothing
  pub run-unread : {T : Type 0} (status : Status) → IsUnread most Faulty status (H.left source) (H.left source') →
      TellsOfSource {S = S} {T = T} H most source source' (Err status) →
      HasRunOver H G most (IsAnswerBy most Faulty Text) source source' out out status
  run-unread status unread tells =
      let left = H.left source in
      let left' = H.left source' in
      let no_text = unread-no-text most Faulty left left' status unread in
      record {
        asked_for = unread-asked most Faulty left left' status unread;
        answered = unread-answered most Faulty left left' Text (G.written out) status unread;
        ended = unread-ended most Faulty left left' status unread;
        finished = λ has. absurd (no_text has);
        one_flush = λ has. absurd (no_text has);
        read_told = λ not. tells.told (λ e. not (error_is refl e));
        write_told = λ _. refl;
        read_fault = λ is. tells.fault (ap Err is);
        write_fault = λ is. absurd (unread-unwritten most Faulty left left' status unread is);
        fault_flush = λ is. absurd (unread-unwritten most Faulty left left' status unread is);
        nothing_written = writes-of (out ≡ out) status refl;
        taken = unread-taken most Faulty left left' status unread;
        asked = tells.asked;
        met_once = tells.met;
        counts_source = tells.later;
        counts_out = omega arith;
        calm_source = tells.steady;
        calm_out = λ input is fit. refl;
      }

  -- the text of an answer to an input is written
  pub run-delivered : {T : Type 0} (it : T) (end : Status) → HasText end → (text : List ℕ) (out' : K) (status : Status) →
      ReadsWhole most (H.left source) (H.left source') (λ input. Text input end text) →
      TellsOfSource {S = S} {T = T} H most source source' (Ok it) → HasDelivered G end text out out' status →
      HasRunOver H G most (IsAnswerBy most Faulty Text) source source' out out' status
  run-delivered it end has text out' status whole tells delivered =
      let left = H.left source in
      let left' = H.left source' in
      let so = delivered-so end has _ _ status delivered.ends in
      record {
        asked_for = not-usage status so;
        answered = answered-by most Faulty Text left left' (G.written out) (G.written out') end has text whole _ _ status delivered.ends;
        ended = reads-of _ status whole.ended;
        finished = λ done. (delivered-whole end has _ _ status delivered.ends done).1;
        one_flush = delivered.one_flush;
        read_told = λ _. tells.told (answered refl);
        write_told = delivered.told;
        read_fault = λ is. absurd (not-read-fault status so is);
        write_fault = λ is. cut-by most Faulty Text left left' (G.written out) (G.written out') end has text whole _ _ status is delivered.ends;
        fault_flush = delivered.fault_flush;
        nothing_written = writes-something _ status so;
        taken = takes-whole most left left' status so (whole.input, whole.short, whole.took);
        asked = tells.asked;
        met_once = tells.met;
        counts_source = tells.later;
        counts_out = delivered.counts;
        calm_source = tells.steady;
        calm_out = λ input is fit. delivered.calm
            (fits most Faulty Text left left' (G.written out) (G.written out') end has text whole (G.takes out) input is fit);
      }
