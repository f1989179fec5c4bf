-- What a run answers, by what is wrong with an input and what the text of an answer is.
use Rattle.std.specs.Prelude.{◌≡◌, ℕ, ◌≤◌, ◌<◌, ◌⊎◌, List, [], length, Option, Some}
use Rattle.port_io.specs.Bytes.{Appended, Took}
use Rattle.text_writer.specs.Giving.{AppendedPart}
use Rattle.run_ends.specs.Ways.{HasText}
use Rattle.run_ends.specs.declared.status.Status.{Status}
use Rattle.run_ends.specs.declared.status.Status.TheVariants.{BadCertificate, Done, Memory, NotRegular}
use Rattle.run_ends.specs.declared.status.Status.TheVariants.{Refused, Rejected, TooLong, WriteFault}

-- the input has at most so many bytes, and the status tells what is wrong with it; there is no text
abbrev pub IsRefusedInput : ℕ → (List ℕ → Status → Type 0) → List ℕ → Status → List ℕ → Type 0
IsRefusedInput most Faulty input status text = (length input ≤ most) × Faulty input status × (text ≡ [])

-- a run on this whole input ends with this status and this text, when nothing fails: an input of more than so many
-- bytes is too long, one with which something is wrong is refused, and else the text is one for it
abbrev pub IsAnswerBy : ℕ → (List ℕ → Status → Type 0) → (List ℕ → Status → List ℕ → Type 0) → List ℕ → Status →
    List ℕ → Type 0
IsAnswerBy most Faulty Text input Done text = (length input ≤ most) × Text input Done text
IsAnswerBy most Faulty Text input NotRegular text = (length input ≤ most) × Text input NotRegular text
IsAnswerBy most Faulty Text input (TooLong limit) text = (limit ≡ most) × (most < length input) × (text ≡ [])
IsAnswerBy most Faulty Text input (Refused refused) text = IsRefusedInput most Faulty input (Refused refused) text
IsAnswerBy most Faulty Text input (BadCertificate line) text =
    IsRefusedInput most Faulty input (BadCertificate line) text
IsAnswerBy most Faulty Text input (Rejected rule) text = IsRefusedInput most Faulty input (Rejected rule) text
IsAnswerBy most Faulty Text input _ text = ⊥

-- what was read, what was written, and that this is an answer
pub record Answered (Answers : List ℕ → Status → List ℕ → Type 0) (left left' written written' : Option (List ℕ))
    (status : Status) : Type 0 where
  pub read : List ℕ
  pub text : List ℕ
  pub took : Took left left' read
  pub appended : Appended written written' text
  pub answer : Answers read status text

-- a write failed amid the text of an answer to what was read
pub record CutShort (Answers : List ℕ → Status → List ℕ → Type 0) (left left' written written' : Option (List ℕ)) :
    Type 0 where
  pub read : List ℕ
  pub text : List ℕ
  pub took : Took left left' read
  pub cut : AppendedPart written written' text
  pub status : Status
  pub whole : HasText status
  pub answer : Answers read status text

-- each text that answers an input fits in what a sink takes
abbrev pub EachTextFits : (List ℕ → Status → List ℕ → Type 0) → (ℕ → Type 0) → List ℕ → Type 0
EachTextFits Answers takes input =
    (status : Status) (text : List ℕ) → HasText status → Answers input status text → takes (length text)

-- where the whole input has an answer, the status is that of the answer, but for want of memory
abbrev pub OnlyAnswer : (List ℕ → Status → List ℕ → Type 0) → Option (List ℕ) → Status → Type 0
OnlyAnswer Answers left status =
    (input : List ℕ) (answer : Status) (text : List ℕ) → left ≡ Some input → Answers input answer text →
    (status ≡ answer) ⊎ (status ≡ Memory)

-- the whole text was written, and the run ends as it is to end; or the sink failed
abbrev pub IsDelivered : Status → Status → Type 0 → Type 0 → Type 0
IsDelivered end WriteFault whole failed = failed
IsDelivered end status whole failed = (status ≡ end) × whole
