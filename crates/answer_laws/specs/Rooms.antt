-- How many bytes a text has at most that may be written for an input of n bytes, and that no answer is longer than its
-- room.
use Rattle.std.specs.Prelude.{ℕ, ◌*◌, List, min, ◌≤◌, length}
use Rattle.limits.specs.Limits.{column_limit, equation_limit}
use Rattle.cert_text.specs.declared.kind.Kind.{Kind}
use Rattle.answer_texts.specs.Rooms.{layer_room, made_room, plan_room, report_room}
use Rattle.desk_texts.specs.Rooms.{said_room}
use Rattle.input_kinds.specs.NameCounts.{names_within}
use Rattle.text_lengths.specs.Rooms.{certificate_room}
use Rattle.command_line.specs.Words.{Asks, field_of, over}
use Rattle.cert_text.specs.declared.version.Version.{Version}
use Rattle.report_cli.specs.Fields.{digits, certificate_version}
use Rattle.command_line.specs.declared.command.Command.{Command}
use Rattle.command_line.specs.declared.command.Command.TheVariants.{Check, Edit, OfModel, OfStudy}
use Rattle.command_line.specs.declared.command.Study.{Study}
use Rattle.command_line.specs.declared.command.Study.TheVariants.{Conflict, Repair, Solve, Values}
use Rattle.repair_texts.specs.Rooms.{repair_room}
use Rattle.study_texts.specs.Rooms.{conflict_room, solution_room, values_room}
use Rattle.command_line.specs.declared.command.Request.{Request}
use Rattle.command_line.specs.declared.command.Request.TheVariants.{Make, OfInput}
use Rattle.command_line.specs.declared.command.Task.{Task}
use Rattle.command_line.specs.declared.command.Task.TheVariants.{Analyse, Layer, Plan, Report}
use Rattle.run_ends.specs.Ways.{HasText}
use Rattle.report_cli.specs.Answer.{IsAnswer}
use Rattle.run_ends.specs.declared.status.Status.{Status}

-- how many columns the layered matrix of an input of this kind and of n bytes has at most
abbrev pub columns_within : Kind → ℕ → ℕ
columns_within kind n = min (2 * names_within kind n) column_limit

-- how many equations, and how many unknowns, its model has at most, and its layered matrix rows of each kind
abbrev pub places_within : Kind → ℕ → ℕ
places_within kind n = min (names_within kind n) equation_limit

-- room for what is written of the model of an input of this kind and of n bytes, over a field whose modulus has at most
-- so many digits; a certificate has this version
abbrev pub task_room : ℕ → Version → Task → Kind → ℕ → ℕ
task_room most version Analyse kind n =
    certificate_room version most n (places_within kind n) (columns_within kind n)
task_room most version Layer kind n = layer_room most (columns_within kind n)
task_room most version Report kind n = report_room (places_within kind n)
task_room most version Plan kind n = plan_room most (places_within kind n) (columns_within kind n)

-- room for what a study writes of an input of this kind and of n bytes
abbrev pub study_room : ℕ → Study → Kind → ℕ → ℕ
study_room most Values kind n = values_room most (places_within kind n)
study_room most Solve kind n = solution_room most (places_within kind n) (columns_within kind n)
study_room most Repair kind n = repair_room most (places_within kind n) (columns_within kind n)
study_room most Conflict kind n = conflict_room (places_within kind n)

-- room for each text that may be written for an input of n bytes by this command, over such a field
abbrev pub text_room : ℕ → Command → ℕ → ℕ
text_room most (OfModel task kind field) n = task_room most (certificate_version field) task kind n
text_room most (OfStudy study kind) n = study_room most study kind n
text_room most Check n = 9
text_room most Edit n = said_room n

-- room for each text that may be written by this request for an input of n bytes
abbrev pub request_room : Request → ℕ → ℕ
request_room (OfInput command) n = text_room (digits (over (field_of command))) command n
request_room (Make size field) n = made_room

-- no answer is longer than the room that the length of its input gives
abbrev pub AnswersFit : Type 0
AnswersFit =
    (words : List (List ℕ)) (request : Request) (input : List ℕ) (status : Status) (text : List ℕ) →
    Asks words request → HasText status → IsAnswer words input status text →
    length text ≤ request_room request (length input)
