-- An input has one fault, or none.
use Rattle.std.proofs.Common.{◌≡◌, ℕ, ◌≤◌, List, length}
use Rattle.cert_verdict.proofs.OneStatus.{accepted-no-fault, one-unaccepted}
use Rattle.command_line.specs.declared.command.Format.{Format}
use Rattle.command_line.specs.declared.command.Format.TheVariants.{Certificate, Lines, Model, Studied}
use Rattle.input_kinds.proofs.OneStatus.{given-no-refusal, one-refusal}
use Rattle.report_cli.specs.Formats.{IsFault, KeepsFormat, limit_of}
use Rattle.run_ends.specs.declared.status.Status.{Status}
use Rattle.study_outputs.proofs.Ends.{kept-study-unfaulty, one-study-fault}

pub one-fault : (p : ℕ) (format : Format) (input : List ℕ) (a b : Status) → length input ≤ limit_of format →
    IsFault p format input a → IsFault p format input b → a ≡ b
one-fault p (Model kind) input a b short one two = one-refusal p kind input a b one two
one-fault p (Studied study kind) input a b short one two = one-study-fault p study kind input a b one two
one-fault p Certificate input a b short one two = one-unaccepted input a b short one two
one-fault p Lines input a b short one two = absurd one

-- an input that keeps each rule has none
pub kept-unfaulty : {A : Type 0} (p : ℕ) (format : Format) (input : List ℕ) (status : Status) → length input ≤ limit_of format →
    KeepsFormat p format input → IsFault p format input status → A
kept-unfaulty p (Model kind) input status short (model, gives) fault = given-no-refusal p kind input model status gives fault
kept-unfaulty p (Studied study kind) input status short keeps fault = kept-study-unfaulty p study kind input status keeps fault
kept-unfaulty p Certificate input status short accepted fault = accepted-no-fault input status short accepted fault
kept-unfaulty p Lines input status short any fault = absurd fault
