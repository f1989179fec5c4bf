-- Inputs that give nothing to write.
use Rattle.std.proofs.Common.{◌≡◌, ◌+◌, ◌≤◌, ℕ, List, [], Option, arith, Result, Ok, Err, length, sym, ◌∙◌, refl, subst, inl, inr}
use Rattle.std.specs.Result.{IfErr, IsErr, IsErrAnd}
use Rattle.port_io.specs.Bytes.{Ended, TookAtMost, TookExactly}
use Rattle.port_io.specs.declared.ports.Source.{Ghosts}
use Rattle.port_io.specs.declared.reading.ReadError.{ReadError}
use Rattle.port_io.specs.declared.reading.ReadError.TheVariants.{ReadFault as Failed, TooLong as Longer, NoMemory as Wanting}
use Rattle.run_ends.specs.Answers.{Answered, IsAnswerBy, IsRefusedInput}
use Rattle.run_ends.specs.Reading.{IsReadFaulty, IsUnread, IsUntaken, ReadsWhole, TellsOfSource}
use Rattle.run_ends.specs.Statuses.{status_of_error}
use Rattle.run_ends.specs.Ways.{HasText, ReadsAll, TakesBy, TellsAnswer}
use Rattle.run_ends.specs.declared.status.Status.{Status}
use Rattle.run_ends.specs.declared.status.Status.TheVariants.{BadCertificate, Done, Memory, NotRegular, ReadFault}
use Rattle.run_ends.specs.declared.status.Status.TheVariants.{Refused, Rejected, TooLong, Usage, WriteFault}
use Rattle.run_ends.proofs.Taking.{appended_nothing}

-- what holds of a status holds of the answer with it
pub with_status : {T : Type 0} (P : Status → Type 0) (result : Result T Status) (status : Status) → IsErr result →
    IsErrAnd result (λ other. other ≡ status) → P status → IfErr result P
with_status P (Ok it) status failed is holds = absurd is
with_status P (Err other) status failed is holds = subst P (sym is) holds

-- an answer that is no error
pub answered : {T E : Type 0} {result : Result T E} {it : T} {error : E} → result ≡ Ok it → result ≡ Err error → ⊥
answered is not = let both = sym is ∙ not in cc

-- what holds of each input of which this holds, holds of the one that was read
pub reads_so : (most : ℕ) (left left' : Option (List ℕ)) (Holds Next : List ℕ → Type 0) → ((input : List ℕ) → Holds input → Next input) →
    ReadsWhole most left left' Holds → ReadsWhole most left left' Next
reads_so most left left' Holds Next next whole = record {
  input = whole.input;
  took = whole.took;
  ended = whole.ended;
  short = whole.short;
  holds = next whole.input whole.holds;
}

-- what is told of the source where nothing was refused is told of any such answer
pub tells_still : {S T R : Type 0} (K : Ghosts S) (most : ℕ) (old new : S) (it : T) (other : R) →
    TellsOfSource K most old new (Ok it) → TellsOfSource K most old new (Ok other)
tells_still K most old new it other tells = record {
  fault = λ e. absurd (answered refl e);
  told = λ _. tells.told (answered refl);
  later = tells.later;
  asked = tells.asked;
  met = tells.met;
  steady = tells.steady;
}

-- a text that was not read
pub untaken-error : (most : ℕ) (left left' : Option (List ℕ)) (error : ReadError) →
    (error ≡ Longer → TookExactly (most + 1) left left') → (error ≡ Failed → TookAtMost most left left') →
    (error ≡ Wanting → TookAtMost most left left') → IsUntaken most (status_of_error most error) left left'
untaken-error most left left' Failed longer failed wanting = failed refl
untaken-error most left left' Longer longer failed wanting = (refl, longer refl)
untaken-error most left left' Wanting longer failed wanting = wanting refl

module _ (most : ℕ) (Faulty : List ℕ → Status → Type 0) (left left' : Option (List ℕ)) where
  pub untaken-unread : (status : Status) → IsUntaken most status left left' → IsUnread most Faulty status left left'
  untaken-unread Done untaken = untaken
  untaken-unread NotRegular untaken = untaken
  untaken-unread Usage untaken = untaken
  untaken-unread (Refused refused) untaken = absurd untaken
  untaken-unread (TooLong limit) untaken = untaken
  untaken-unread (BadCertificate line) untaken = absurd untaken
  untaken-unread ReadFault untaken = untaken
  untaken-unread WriteFault untaken = untaken
  untaken-unread Memory untaken = untaken
  untaken-unread (Rejected rule) untaken = absurd untaken

  -- the statuses of inputs that give nothing to write
  pub unread-no-text : (status : Status) → IsUnread most Faulty status left left' → HasText status → ⊥
  unread-no-text status unread (inl done) = subst (λ s. IsUnread most Faulty s left left') done unread
  unread-no-text status unread (inr other) = subst (λ s. IsUnread most Faulty s left left') other unread

  pub unread-unwritten : (status : Status) → IsUnread most Faulty status left left' → status ≡ WriteFault → ⊥
  unread-unwritten status unread is = subst (λ s. IsUnread most Faulty s left left') is unread

  pub unread-asked : (status : Status) → IsUnread most Faulty status left left' → status ≡ Usage → ⊥
  unread-asked status unread is = subst (λ s. IsUnread most Faulty s left left') is unread

  -- what was taken of them
  pub unread-ended : (status : Status) → IsUnread most Faulty status left left' → ReadsAll status (Ended left')
  unread-ended Done unread = absurd unread
  unread-ended NotRegular unread = absurd unread
  unread-ended Usage unread = tt
  unread-ended (Refused refused) unread = unread.ended
  unread-ended (TooLong limit) unread = tt
  unread-ended (BadCertificate line) unread = unread.ended
  unread-ended ReadFault unread = tt
  unread-ended WriteFault unread = absurd unread
  unread-ended Memory unread = tt
  unread-ended (Rejected rule) unread = unread.ended

  took_within : {Holds : List ℕ → Type 0} → ReadsWhole most left left' Holds → TookAtMost most left left'
  took_within whole = (whole.input, whole.short, whole.took)

  pub unread-taken : (status : Status) → IsUnread most Faulty status left left' → TakesBy most status left left'
  unread-taken Done unread = absurd unread
  unread-taken NotRegular unread = absurd unread
  unread-taken Usage unread = absurd unread
  unread-taken (Refused refused) unread = took_within unread
  unread-taken (TooLong limit) unread = unread.1
  unread-taken (BadCertificate line) unread = took_within unread
  unread-taken ReadFault unread = unread
  unread-taken WriteFault unread = absurd unread
  unread-taken Memory unread = unread
  unread-taken (Rejected rule) unread = took_within unread

  -- what they are answered: nothing is written
  module _ (Text : List ℕ → Status → List ℕ → Type 0) (written : Option (List ℕ)) where
    faulty-answer : (status : Status) →
        ((input : List ℕ) → IsRefusedInput most Faulty input status [] → IsAnswerBy most Faulty Text input status []) →
        IsReadFaulty most Faulty status left left' → Answered (IsAnswerBy most Faulty Text) left left' written written status
    faulty-answer status answers whole = record {
      read = whole.input;
      text = [];
      took = whole.took;
      appended = appended_nothing written;
      answer = answers whole.input (whole.short, whole.holds, refl);
    }

    pub unread-answered : (status : Status) → IsUnread most Faulty status left left' →
        TellsAnswer status (Answered (IsAnswerBy most Faulty Text) left left' written written status)
    unread-answered Done unread = absurd unread
    unread-answered NotRegular unread = absurd unread
    unread-answered Usage unread = absurd unread
    unread-answered (Refused refused) unread = faulty-answer (Refused refused) (λ input answer. answer) unread
    unread-answered (TooLong limit) (is, (read, long, took)) = record {
      read = read;
      text = [];
      took = took;
      appended = appended_nothing written;
      answer = (is, omega (arith, long), refl);
    }
    unread-answered (BadCertificate line) unread = faulty-answer (BadCertificate line) (λ input answer. answer) unread
    unread-answered ReadFault unread = tt
    unread-answered WriteFault unread = tt
    unread-answered Memory unread = tt
    unread-answered (Rejected rule) unread = faulty-answer (Rejected rule) (λ input answer. answer) unread
