-- What a run is that tells of a made model.
use Rattle.std.proofs.Common.{◌≡◌, ◌⊎◌, ℕ, List, [], Option, Some, None, inl, inr, refl, sym, subst, ap, ◌∙◌, arith}
use Rattle.port_io.specs.Causes.{FailedLast}
use Rattle.port_io.specs.declared.ports.Sink.{Ghosts}
use Rattle.answer_texts.specs.MadeTexts.{made_text}
use Rattle.run_ends.specs.Answers.{Answered, CutShort, OnlyAnswer}
use Rattle.run_ends.specs.Runs.{HasDelivered}
use Rattle.run_ends.specs.Ways.{HasText, TellsAnswer, WritesNothing}
use Rattle.run_ends.proofs.Delivered.{delivered-ways, delivered-whole}
use Rattle.report_cli.specs.Answer.{IsAnswer}
use Rattle.report_cli.specs.Makes.{HasMadeOver, IsMakeEnd}
use Rattle.report_cli.specs.MadeFor.{IsMakeText}
use Rattle.report_cli.specs.Outputs.{IsMadeOutput, IsWritable, end_of, output_text}
use Rattle.clap.specs.Simple.{subcommand_of}
use Rattle.clap.specs.Walk.{Row, Text}
use Rattle.command_line.specs.CommandLine.{command_line}
use Rattle.command_line.specs.Words.{AsksToMake, IsSizeWord, Names, over}
use Rattle.residue_field.specs.declared.field_name.FieldName.{FieldName}
use Rattle.residue_field.specs.Modulus.{modulus_of}
use Rattle.made_models.specs.MadeModels.{IsSize}
use Rattle.command_line.specs.declared.command.Request.TheVariants.{Make}
use Rattle.report_cli.specs.declared.output.Output.{Output}
use Rattle.report_cli.specs.declared.output.Output.TheVariants.{Accepted, Certificate, Layers, Made, Plan, Replies, Report, Studied}
use Rattle.run_ends.specs.declared.status.Status.{Status}
use Rattle.run_ends.specs.declared.status.Status.TheVariants.{BadCertificate, Done, Memory, NotRegular, ReadFault}
use Rattle.run_ends.specs.declared.status.Status.TheVariants.{Refused, Rejected, TooLong, Usage, WriteFault}
use Rattle.command_line.proofs.Asking.{not-both}
use Rattle.run_ends.proofs.Taking.{took_nothing}

-- what is told of a made model can be written
pub made-writable : {T : Type 0} (p n : ℕ) (output : Output T) → IsMadeOutput p n output → IsWritable p output
made-writable p n (Made size split ccf) is = tt
made-writable p n (Certificate certificate) is = absurd is
made-writable p n (Layers model layers) is = absurd is
made-writable p n (Report model told) is = absurd is
made-writable p n (Plan model layers plan) is = absurd is
made-writable p n (Studied studied) is = absurd is
made-writable p n Accepted is = absurd is
made-writable p n (Replies text) is = absurd is

-- the text of what is told of a made model tells of it
pub told-so : {T : Type 0} (number : T → ℕ) (p n : ℕ) (output : Output T) → IsMadeOutput p n output → IsMakeText p n (output_text number output)
told-so number p n (Made size split ccf) (same, right) = record {
  split = split;
  ccf = ccf;
  right = right;
  text_is = ap (λ s. made_text s split ccf) same;
}
told-so number p n (Certificate certificate) is = absurd is
told-so number p n (Layers model layers) is = absurd is
told-so number p n (Report model told) is = absurd is
told-so number p n (Plan model layers plan) is = absurd is
told-so number p n (Studied studied) is = absurd is
told-so number p n Accepted is = absurd is
told-so number p n (Replies text) is = absurd is

-- a run that writes it is done
made-end : {T : Type 0} (p n : ℕ) (output : Output T) → IsMadeOutput p n output → end_of output ≡ Done
made-end p n (Made size split ccf) is = refl
made-end p n (Certificate certificate) is = absurd is
made-end p n (Layers model layers) is = absurd is
made-end p n (Report model told) is = absurd is
made-end p n (Plan model layers plan) is = absurd is
made-end p n (Studied studied) is = absurd is
made-end p n Accepted is = absurd is
made-end p n (Replies text) is = absurd is

-- what it makes of the sink
module _ {T K : Type 0} (G : Ghosts K) (number : T → ℕ) (p n : ℕ) (output : Output T) (is : IsMadeOutput p n output) (out out' : K)
    (status : Status) (delivered : HasDelivered G (end_of output) (output_text number output) out out' status) where
  abbrev Failed : Type 0
  Failed = FailedLast (G.faults out) (G.faults out') (G.failed out')

  make-ends : IsMakeEnd p n status out out' (G.written out) (G.written out') Failed
  make-ends = elim (delivered-ways (end_of output) _ _ status delivered.ends) [
    | inl (ends, (appended, sent)) ↦ subst (λ s. IsMakeEnd p n s out out' (G.written out) (G.written out') Failed)
        (sym (ends ∙ made-end p n output is)) (output_text number output, told-so number p n output is, appended)
    | inr (cut, (failed, part)) ↦ subst (λ s. IsMakeEnd p n s out out' (G.written out) (G.written out') Failed) (sym cut)
        (failed, (output_text number output, told-so number p n output is, part))
  ]

  pub made-so : HasMadeOver G p n out out' status
  made-so = record {
    ends = make-ends;
    finished = λ has. (delivered-whole (end_of output) (inl (made-end p n output is)) _ _ status delivered.ends has).1;
    one_flush = delivered.one_flush;
    write_told = delivered.told;
    fault_flush = delivered.fault_flush;
    counts_out = delivered.counts;
    calm_out = λ fit. delivered.calm (fit (output_text number output) (told-so number p n output is));
  }

-- there was no memory for it
no-text-memory : HasText Memory → ⊥
no-text-memory (inl done) = absurd cc
no-text-memory (inr other) = absurd cc

pub unmade : {K : Type 0} (G : Ghosts K) (p n : ℕ) (out : K) → HasMadeOver G p n out out Memory
unmade G p n out = record {
  ends = refl;
  finished = λ has. absurd (no-text-memory has);
  one_flush = λ has. absurd (no-text-memory has);
  write_told = λ _. refl;
  fault_flush = λ is. absurd cc;
  counts_out = omega arith;
  calm_out = λ _. refl;
}

-- what answers words that ask for a made model is `Done`
pub made-done : (words : List (List ℕ)) (n : ℕ) (field : Option FieldName) (input : List ℕ) (answer : Status) (text : List ℕ) →
    AsksToMake words n field →
    IsAnswer words input answer text → answer ≡ Done
made-done words n field input Done text makes given = refl
made-done words n field input NotRegular text makes (command, asks, given) = not-both words command n field asks makes
made-done words n field input Usage text makes (never, empty) = absurd (never (Make n field) makes)
made-done words n field input (Refused refused) text makes (command, asks, given) = not-both words command n field asks makes
made-done words n field input (TooLong limit) text makes (command, asks, given) = not-both words command n field asks makes
made-done words n field input (BadCertificate line) text makes (command, asks, given) = not-both words command n field asks makes
made-done words n field input ReadFault text makes (command, asks, given) = not-both words command n field asks makes
made-done words n field input WriteFault text makes (command, asks, given) = not-both words command n field asks makes
made-done words n field input Memory text makes (command, asks, given) = not-both words command n field asks makes
made-done words n field input (Rejected rule) text makes (command, asks, given) = not-both words command n field asks makes

-- the size that words ask for is one
size-word : (word : Option (List ℕ)) (n : ℕ) → IsSizeWord word n → IsSize n
size-word None n is = absurd is
size-word (Some word) n is = is.1

named-size : (met : Option (Text × List Row)) (n : ℕ) (field : Option FieldName) → Names met (Make n field) → IsSize n
named-size None n field named = absurd named
named-size (Some (name, values)) n field named = size-word _ n named.1.0

pub asked-size : (words : List (List ℕ)) (n : ℕ) (field : Option FieldName) → AsksToMake words n field → IsSize n
asked-size words n field makes = named-size (subcommand_of command_line words) n field makes.1

-- how a run ends that asks for one: it is done, or a write failed, or memory ran out
abbrev Ways : Status → Type 0
Ways status = (status ≡ Done) ⊎ ((status ≡ WriteFault) ⊎ (status ≡ Memory))

ways : {K : Type 0} (p n : ℕ) (status : Status) (out out' : K) (written written' : Option (List ℕ)) (rose : Type 0) →
    IsMakeEnd p n status out out' written written' rose → Ways status
ways p n Done out out' written written' rose ends = inl refl
ways p n WriteFault out out' written written' rose ends = inr (inl refl)
ways p n Memory out out' written written' rose ends = inr (inr refl)
ways p n NotRegular out out' written written' rose ends = absurd ends
ways p n Usage out out' written written' rose ends = absurd ends
ways p n (Refused refused) out out' written written' rose ends = absurd ends
ways p n (TooLong limit) out out' written written' rose ends = absurd ends
ways p n (BadCertificate line) out out' written written' rose ends = absurd ends
ways p n ReadFault out out' written written' rose ends = absurd ends
ways p n (Rejected rule) out out' written written' rose ends = absurd ends

module _ (words : List (List ℕ)) (n : ℕ) (field : Option FieldName) (makes : AsksToMake words n field)
    {K : Type 0} (out out' : K) (left written written' : Option (List ℕ)) (rose : Type 0) where
  abbrev p : ℕ
  p = modulus_of (over field)

  -- the end at a status that is told
  at : (status other : Status) → IsMakeEnd p n status out out' written written' rose → status ≡ other → IsMakeEnd p n other out out' written written' rose
  at status other ends is = subst (λ s. IsMakeEnd p n s out out' written written' rose) is ends

  done-answered : IsMakeEnd p n Done out out' written written' rose → Answered (IsAnswer words) left left written written' Done
  done-answered (text, told, appended) = record {
    read = [];
    text = text;
    took = took_nothing left;
    appended = appended;
    answer = inr (n, field, makes, told);
  }

  pub make-answered : (status : Status) → IsMakeEnd p n status out out' written written' rose →
      TellsAnswer status (Answered (IsAnswer words) left left written written' status)
  make-answered status ends = elim (ways p n status out out' written written' rose ends) [
    | inl done ↦ subst (λ s. TellsAnswer s (Answered (IsAnswer words) left left written written' s)) (sym done) (done-answered (at status Done ends done))
    | inr other ↦ elim other [
      | inl failed ↦ subst (λ s. TellsAnswer s (Answered (IsAnswer words) left left written written' s)) (sym failed) tt
      | inr memory ↦ subst (λ s. TellsAnswer s (Answered (IsAnswer words) left left written written' s)) (sym memory) tt
    ]
  ]

  pub make-cut : (status : Status) → IsMakeEnd p n status out out' written written' rose → status ≡ WriteFault →
      rose × CutShort (IsAnswer words) left left written written'
  make-cut status ends is =
      let failed = at status WriteFault ends is in (
        failed.0,
        record {
          read = [];
          text = failed.1.0;
          took = took_nothing left;
          cut = failed.1.2;
          status = Done;
          whole = inl refl;
          answer = inr (n, field, makes, failed.1.1);
        },
      )

  pub make-complete : (status : Status) → IsMakeEnd p n status out out' written written' rose → (rose → ⊥) → (status ≡ Done) ⊎ (status ≡ Memory)
  make-complete status ends calm = elim (ways p n status out out' written written' rose ends) [
    | inl done ↦ inl done
    | inr other ↦ elim other [
      | inl failed ↦ absurd (calm (at status WriteFault ends failed).0)
      | inr memory ↦ inr memory
    ]
  ]

  pub make-only : (status : Status) → IsMakeEnd p n status out out' written written' rose → (rose → ⊥) → OnlyAnswer (IsAnswer words) left status
  make-only status ends calm = λ input answer text is given. elim (make-complete status ends calm) [
    | inl done ↦ inl (done ∙ sym (made-done words n field input answer text makes given))
    | inr memory ↦ inr memory
  ]

  pub make-unread : (status : Status) → IsMakeEnd p n status out out' written written' rose → status ≡ ReadFault → ⊥
  make-unread status ends is = at status ReadFault ends is

  pub make-unwritten : (status : Status) → IsMakeEnd p n status out out' written written' rose → WritesNothing status (out' ≡ out)
  make-unwritten status ends = elim (ways p n status out out' written written' rose ends) [
    | inl done ↦ subst (λ s. WritesNothing s (out' ≡ out)) (sym done) tt
    | inr other ↦ elim other [
      | inl failed ↦ subst (λ s. WritesNothing s (out' ≡ out)) (sym failed) tt
      | inr memory ↦ subst (λ s. WritesNothing s (out' ≡ out)) (sym memory) (at status Memory ends memory)
    ]
  ]
