-- A text that is delivered, or is not, and what that makes of a run.
use Rattle.std.proofs.Common.{◌≡◌, ◌⊎◌, ℕ, List, length, Option, Some, inl, inr, sym, subst, ◌∙◌, refl}
use Rattle.port_io.specs.Bytes.{Appended, TookAtMost}
use Rattle.text_writer.specs.Giving.{AppendedPart}
use Rattle.run_ends.specs.Answers.{Answered, CutShort, EachTextFits, IsAnswerBy, IsDelivered}
use Rattle.run_ends.specs.Reading.{ReadsWhole}
use Rattle.run_ends.specs.Ways.{HasText, TellsAnswer}
use Rattle.run_ends.specs.declared.status.Status.{Status}
use Rattle.run_ends.specs.declared.status.Status.TheVariants.{BadCertificate, Done, Memory, NotRegular, ReadFault}
use Rattle.run_ends.specs.declared.status.Status.TheVariants.{Refused, Rejected, TooLong, Usage, WriteFault}
use Rattle.run_ends.proofs.Taking.{read_is}
use Rattle.run_ends.proofs.StatusFacts.{tells-of}

-- it was written whole and the run ends so, or a write failed
pub delivered-ways : (end : Status) (whole failed : Type 0) (status : Status) → IsDelivered end status whole failed →
    ((status ≡ end) × whole) ⊎ ((status ≡ WriteFault) × failed)
delivered-ways end whole failed Done ends = inl ends
delivered-ways end whole failed NotRegular ends = inl ends
delivered-ways end whole failed Usage ends = inl ends
delivered-ways end whole failed (Refused refused) ends = inl ends
delivered-ways end whole failed (TooLong limit) ends = inl ends
delivered-ways end whole failed (BadCertificate line) ends = inl ends
delivered-ways end whole failed ReadFault ends = inl ends
delivered-ways end whole failed WriteFault ends = inr (refl, ends)
delivered-ways end whole failed Memory ends = inl ends
delivered-ways end whole failed (Rejected rule) ends = inl ends

-- with a status that has a text it is delivered whole
pub delivered-at : (end : Status) (whole failed : Type 0) → HasText end → whole → IsDelivered end end whole failed
delivered-at end whole failed (inl done) sent = subst (λ e. IsDelivered e e whole failed) (sym done) (refl, sent)
delivered-at end whole failed (inr other) sent = subst (λ e. IsDelivered e e whole failed) (sym other) (refl, sent)

module _ (end : Status) (has : HasText end) (whole failed : Type 0) (status : Status) (ends : IsDelivered end status whole failed) where
  pub delivered-so : HasText status ⊎ (status ≡ WriteFault)
  delivered-so = elim (delivered-ways end whole failed status ends) [
    | inl sent ↦ inl (subst HasText (sym sent.0) has)
    | inr cut ↦ inr cut.0
  ]

  pub delivered-whole : HasText status → whole
  delivered-whole text = elim (delivered-ways end whole failed status ends) [
    | inl sent ↦ sent.1
    | inr cut ↦ absurd (failed-no-text cut.0 text)
  ]
    where
      failed-no-text : status ≡ WriteFault → HasText status → ⊥
      failed-no-text is (inl done) = let both : Done ≡ WriteFault = sym done ∙ is in absurd cc
      failed-no-text is (inr other) = let both : NotRegular ≡ WriteFault = sym other ∙ is in absurd cc

module _ (most : ℕ) (Faulty : List ℕ → Status → Type 0) (Text : List ℕ → Status → List ℕ → Type 0)
    (left left' written written' : Option (List ℕ)) (end : Status) (has : HasText end) (text : List ℕ)
    (whole : ReadsWhole most left left' (λ input. Text input end text)) where
  -- the text is an answer
  at-end : IsAnswerBy most Faulty Text whole.input end text
  at-end = elim has [
    | inl done ↦ subst (λ s. IsAnswerBy most Faulty Text whole.input s text) (sym done)
        (whole.short, subst (λ s. Text whole.input s text) done whole.holds)
    | inr other ↦ subst (λ s. IsAnswerBy most Faulty Text whole.input s text) (sym other)
        (whole.short, subst (λ s. Text whole.input s text) other whole.holds)
  ]

  pub answered-by : (flushed failed : Type 0) (status : Status) → IsDelivered end status (Appended written written' text × flushed) failed →
      TellsAnswer status (Answered (IsAnswerBy most Faulty Text) left left' written written' status)
  answered-by flushed failed status ends = elim (delivered-ways end (Appended written written' text × flushed) failed status ends) [
    | inl (is, (appended, done)) ↦ tells-of (Answered (IsAnswerBy most Faulty Text) left left' written written' status) status (record {
      read = whole.input;
      text = text;
      took = whole.took;
      appended = appended;
      answer = subst (λ s. IsAnswerBy most Faulty Text whole.input s text) (sym is) at-end;
    })
    | inr (is, cut) ↦ subst (λ s. TellsAnswer s (Answered (IsAnswerBy most Faulty Text) left left' written written' s)) (sym is) tt
  ]

  pub cut-by : (sent rose : Type 0) (status : Status) → status ≡ WriteFault →
      IsDelivered end status sent (rose × AppendedPart written written' text) →
      rose × CutShort (IsAnswerBy most Faulty Text) left left' written written'
  cut-by sent rose status is ends =
      let failed : rose × AppendedPart written written' text =
      subst (λ s. IsDelivered end s sent (rose × AppendedPart written written' text)) is ends in (
        failed.0,
        record {
          read = whole.input;
          text = text;
          took = whole.took;
          cut = failed.1;
          status = end;
          whole = has;
          answer = at-end;
        },
      )

  -- it fits where each text fits that answers the input
  pub fits : (takes : ℕ → Type 0) (input : List ℕ) → left ≡ Some input → EachTextFits (IsAnswerBy most Faulty Text) takes input → takes (length text)
  fits takes input is fit =
      let same : whole.input ≡ input = read_is left left' input whole.input is whole.took whole.ended in
      fit end text has (subst (λ read. IsAnswerBy most Faulty Text read end text) same at-end)
