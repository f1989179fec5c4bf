-- How long the texts are that answer the empty input.
use Rattle.std.specs.Prelude.{ℕ, ◌≤◌, List, [], length}
use Rattle.command_line.specs.Words.{AsksFor}
use Rattle.command_line.specs.declared.command.Command.{Command}
use Rattle.command_line.specs.declared.command.Command.TheVariants.{Check, Edit, OfModel, OfStudy}
use Rattle.command_line.specs.declared.command.Study.TheVariants.{Conflict, Repair, Solve, Values}
use Rattle.command_line.specs.declared.command.Task.TheVariants.{Analyse, Layer, Plan, Report}
use Rattle.run_ends.specs.Ways.{HasText}
use Rattle.report_cli.specs.Answer.{IsAnswer}
use Rattle.run_ends.specs.declared.status.Status.{Status}

-- room for what this command writes of the empty input: its certificate, which tells its field, its kind and numbers
-- that are 0; the line of no columns; the report on a model of nothing; the plan of no step; a rank or a count in a
-- line. The empty text is no certificate, and it has no head: nothing is written of it; and it has no line to reply to
abbrev pub empty_room : Command → ℕ
empty_room (OfModel Analyse kind field) = 115
empty_room (OfModel Layer kind field) = 14
empty_room (OfModel Report kind field) = 72
empty_room (OfModel Plan kind field) = 0
empty_room (OfStudy Values kind) = 10
empty_room (OfStudy Solve kind) = 0
empty_room (OfStudy Repair kind) = 0
empty_room (OfStudy Conflict kind) = 17
empty_room Check = 0
empty_room Edit = 0

abbrev pub TheEmptyInputNeedsLittle : Type 0
TheEmptyInputNeedsLittle =
    (words : List (List ℕ)) (command : Command) (status : Status) (text : List ℕ) →
    AsksFor words command → HasText status → IsAnswer words [] status text → length text ≤ empty_room command
