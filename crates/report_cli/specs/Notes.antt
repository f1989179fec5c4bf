-- What is noted of a run, by its words.
use Rattle.std.specs.Prelude.{◌≡◌, ℕ, Bool, List, length, Option}
use Rattle.std.specs.String.{string_bytes}
use Rattle.command_line.specs.Words.{AreTaken}
use Rattle.command_line.specs.declared.command.WordsError.{WordsError}
use Rattle.command_line.specs.declared.command.WordsError.TheVariants.{Told, UnknownWord, NoMemory}
use Rattle.run_ends.specs.Notes.{Noted, line_of, note_of}
use Rattle.run_ends.specs.declared.status.Status.{Status}
use Rattle.run_ends.specs.declared.status.Status.TheVariants.{Memory, Usage}

-- what is noted of words that ask for no command: what clap tells, or the line for a status
abbrev pub note_of_words : WordsError → List ℕ
note_of_words (Told text) = string_bytes text
note_of_words UnknownWord = line_of Usage
note_of_words NoMemory = line_of Memory

-- what may be noted of a status of a run with these words: of `Usage`, the line where clap's definition takes the
-- words, so that the kind alone is unknown, and else any text
abbrev pub IsNoteOf : List (List ℕ) → Status → List ℕ → Type 0
IsNoteOf words Usage note = AreTaken words → note ≡ line_of Usage
IsNoteOf words status note = note ≡ note_of status

-- each text that may be noted of a status fits in what a sink takes
abbrev pub EachNoteFits : (ℕ → Type 0) → List (List ℕ) → Status → Type 0
EachNoteFits takes words status = (note : List ℕ) → IsNoteOf words status note → takes (length note)

-- what may be noted of the status was noted so
abbrev pub IsNotedOf : List (List ℕ) → Option (List ℕ) → Option (List ℕ) → ℕ → ℕ → Bool → Status → Type 0
IsNotedOf words written written' faults faults' failed status =
    (note : List ℕ) × IsNoteOf words status note × Noted written written' faults faults' failed note
