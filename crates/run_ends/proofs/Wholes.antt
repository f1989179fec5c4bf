-- Where no fault came, what is told of the input that was read is told of the whole input.
use Rattle.std.proofs.Common.{◌≡◌, ◌⊎◌, ◌<◌, ℕ, List, length, Option, Some, inl, inr, refl, subst, arith}
use Rattle.port_io.specs.Bytes.{Ended, Took}
use Rattle.run_ends.specs.Answers.{Answered, IsAnswerBy}
use Rattle.run_ends.specs.Ways.{ReadsAll, TellsAnswer}
use Rattle.run_ends.specs.declared.status.Status.{Status}
use Rattle.run_ends.specs.declared.status.Status.TheVariants.{BadCertificate, Done, Memory, NotRegular, ReadFault}
use Rattle.run_ends.specs.declared.status.Status.TheVariants.{Refused, Rejected, TooLong, Usage, WriteFault}
use Rattle.run_ends.proofs.Taking.{read_is, read_within}

module _ (most : ℕ) (Faulty : List ℕ → Status → Type 0) (Text : List ℕ → Status → List ℕ → Type 0)
    (left after written written' : Option (List ℕ)) (input : List ℕ) (is : left ≡ Some input) where
  told-whole : (status : Status) (text read : List ℕ) → Took left after read → Ended after → IsAnswerBy most Faulty Text read status text →
      (text : List ℕ) × IsAnswerBy most Faulty Text input status text
  told-whole status text read took ended answer =
      (text, subst (λ r. IsAnswerBy most Faulty Text r status text) (read_is left after input read is took ended) answer)

  pub told : (status : Status) → TellsAnswer status (Answered (IsAnswerBy most Faulty Text) left after written written' status) →
      ReadsAll status (Ended after) → (status ≡ ReadFault → ⊥) → (status ≡ WriteFault → ⊥) →
      ((text : List ℕ) × IsAnswerBy most Faulty Text input status text) ⊎ (status ≡ Memory)
  told NotRegular a ended no_read no_write = inl (told-whole NotRegular a.text a.read a.took ended a.answer)
  told Done a ended no_read no_write = inl (told-whole Done a.text a.read a.took ended a.answer)
  told Usage a ended no_read no_write = absurd a.answer
  told (Refused refused) a ended no_read no_write = inl (told-whole (Refused refused) a.text a.read a.took ended a.answer)
  told (TooLong limit) a ended no_read no_write =
      let long : most < length a.read = a.answer.1 in
      inl (a.text, (a.answer.0, omega (arith, long, read_within left after input a.read is a.took), a.answer.2))
  told (BadCertificate line) a ended no_read no_write = inl (told-whole (BadCertificate line) a.text a.read a.took ended a.answer)
  told ReadFault a ended no_read no_write = absurd (no_read refl)
  told WriteFault a ended no_read no_write = absurd (no_write refl)
  told Memory a ended no_read no_write = inr refl
  told (Rejected rule) a ended no_read no_write = inl (told-whole (Rejected rule) a.text a.read a.took ended a.answer)

  -- where all answers to an input have one status, no other answer than the one given is one
  pub only : ((a b : Status) (text other : List ℕ) → IsAnswerBy most Faulty Text input a text →
      IsAnswerBy most Faulty Text input b other → a ≡ b) →
      (status : Status) → TellsAnswer status (Answered (IsAnswerBy most Faulty Text) left after written written' status) →
      ReadsAll status (Ended after) → (status ≡ ReadFault → ⊥) → (status ≡ WriteFault → ⊥) →
      (answer : Status) (text : List ℕ) → IsAnswerBy most Faulty Text input answer text → (status ≡ answer) ⊎ (status ≡ Memory)
  only one status tells ended no_read no_write answer text given = elim (told status tells ended no_read no_write) [
    | inl own ↦ inl (one status answer own.0 text own.1 given)
    | inr memory ↦ inr memory
  ]
