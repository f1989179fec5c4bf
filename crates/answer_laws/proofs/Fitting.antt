-- Where there is room for what may be written for an input of its length, each text that answers the input fits.
use Rattle.std.proofs.Common.{◌≤◌, ℕ, List, length, inl, inr, subst, arith}
use Rattle.run_ends.specs.Answers.{EachTextFits}
use Rattle.run_ends.specs.Ways.{HasText}
use Rattle.report_cli.specs.Answer.{IsAnswer}
use Rattle.answer_laws.specs.Rooms.{request_room}
use Rattle.run_ends.specs.declared.status.Status.{Status}
use Rattle.run_ends.specs.declared.status.Status.TheVariants.{Done, NotRegular}
use Rattle.command_line.specs.Words.{Asks}
use Rattle.command_line.specs.declared.command.Request.{Request}
use Rattle.command_line.specs.declared.command.Request.TheVariants.{Make, OfInput}
use Rattle.answer_laws.proofs.Answers.{fitting}

-- there is room for each text that may be written for it, by what the words ask for
abbrev pub HasTextRoom : (ℕ → Type 0) → List (List ℕ) → ℕ → Type 0
HasTextRoom takes words n = (request : Request) → Asks words request → takes (request_room request n)

-- what a text answers was asked for
asked-at : (words : List (List ℕ)) (input : List ℕ) (status : Status) (text : List ℕ) → HasText status → IsAnswer words input status text →
    (request : Request) × Asks words request
asked-at words input status text (inl done) answer = by-done (subst (λ s. IsAnswer words input s text) done answer)
  where
    by-done : IsAnswer words input Done text → (request : Request) × Asks words request
    by-done (inl (command, asks, given)) = (OfInput command, asks)
    by-done (inr (n, field, makes, told)) = (Make n field, makes)
asked-at words input status text (inr other) answer = by-other (subst (λ s. IsAnswer words input s text) other answer)
  where
    by-other : IsAnswer words input NotRegular text → (request : Request) × Asks words request
    by-other (command, asks, given) = (OfInput command, asks)

pub room-fits : (words : List (List ℕ)) (input : List ℕ) (room : ℕ) → HasTextRoom (λ size. size ≤ room) words (length input) →
    EachTextFits (IsAnswer words) (λ size. size ≤ room) input
room-fits words input room has = λ status text written answer.
    let asked = asked-at words input status text written answer in
    let low : length text ≤ request_room asked.0 (length input) = fitting words asked.0 input status text asked.1 written answer in
    let high : request_room asked.0 (length input) ≤ room = has asked.0 asked.1 in
    omega (arith, low, high)
