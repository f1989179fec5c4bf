-- What the words of a command line ask for. Each word is its bytes, and the first is the program's own name.
use Rattle.std.specs.Prelude.{◌≡◌, ℕ, List, [], Option, Some, None, codes}
use Rattle.std.specs.Borrow.{Bor}
use Rattle.std.specs.Option.{option_map}
use Rattle.std.specs.Str.Parse.{IsNumeral, digits_value, without_leading_plus}
use Rattle.clap.specs.Faults.{fault_of}
use Rattle.clap.specs.Simple.{subcommand_of}
use Rattle.clap.specs.Walk.{Row, Text, first_of}
use Rattle.cert_text.specs.Texts.{kind_text}
use Rattle.made_models.specs.MadeModels.{IsSize}
use Rattle.command_line.specs.CommandLine.{command_line}
use Rattle.command_line.specs.declared.command.Command.{Command}
use Rattle.command_line.specs.declared.command.Command.TheVariants.{Check, Edit, OfModel, OfStudy}
use Rattle.command_line.specs.declared.command.Format.{Format}
use Rattle.command_line.specs.declared.command.Format.TheVariants.{Certificate, Lines, Model, Studied}
use Rattle.command_line.specs.declared.command.Study.{Study}
use Rattle.command_line.specs.declared.command.Study.TheVariants.{Conflict, Repair, Solve, Values}
use Rattle.command_line.specs.declared.command.Task.{Task}
use Rattle.command_line.specs.declared.command.Task.TheVariants.{Analyse, Layer, Plan, Report}
use Rattle.residue_field.specs.declared.field_name.FieldName.{FieldName}
use Rattle.residue_field.specs.declared.field_name.FieldName.TheVariants.{Large, Small}
use Rattle.command_line.specs.declared.command.Request.{Request}
use Rattle.command_line.specs.declared.command.Request.TheVariants.{Make, OfInput}
use Rattle.command_line.specs.declared.command.WordsError.{WordsError}
use Rattle.command_line.specs.declared.command.WordsError.TheVariants.{Told, UnknownWord, NoMemory}

-- the name of a task
abbrev pub task_text : Task → List ℕ
task_text Analyse = codes "analyse"
task_text Layer = codes "layer"
task_text Report = codes "report"
task_text Plan = codes "plan"

-- the name of a study
abbrev pub study_text : Study → List ℕ
study_text Values = codes "values"
study_text Solve = codes "solve"
study_text Repair = codes "repair"
study_text Conflict = codes "conflict"

-- the name of a command
abbrev pub name_of : Command → List ℕ
name_of (OfModel task kind field) = task_text task
name_of (OfStudy study kind) = study_text study
name_of Check = codes "check"
name_of Edit = codes "edit"

-- the word at KIND: a certificate tells its own, and lines of commands have none
abbrev pub word_of : Format → Option (List ℕ)
word_of (Model kind) = Some (kind_text kind)
word_of (Studied study kind) = Some (kind_text kind)
word_of Certificate = None
word_of Lines = None

-- what a command's input is to be
abbrev pub format_of : Command → Format
format_of (OfModel task kind field) = Model kind
format_of (OfStudy study kind) = Studied study kind
format_of Check = Certificate
format_of Edit = Lines

-- the name of a field
abbrev pub field_text : FieldName → List ℕ
field_text Small = codes "65521"
field_text Large = codes "2147483647"

-- the word at FIELD, which need not be there
abbrev pub field_word : Option FieldName → Option (List ℕ)
field_word field = option_map field_text field

-- the field that a command names: a certificate tells its own, and models are edited and studied over the smaller one
abbrev pub field_of : Command → Option FieldName
field_of (OfModel task kind field) = field
field_of (OfStudy study kind) = None
field_of Check = None
field_of Edit = None

-- the field that is meant: the smaller one where none is named
abbrev pub over : Option FieldName → FieldName
over None = Small
over (Some field) = field

-- clap's definition takes the words: no step of the parse fails
abbrev pub AreTaken : List (List ℕ) → Type 0
AreTaken words = fault_of command_line words ≡ []

-- these are the name of a command, the word at KIND where it has one, and the word at FIELD where it names one
abbrev pub AreNamesOf : List ℕ → Option (List ℕ) → Option (List ℕ) → Command → Type 0
AreNamesOf name kind field command =
    (name ≡ name_of command) × (kind ≡ word_of (format_of command)) × (field ≡ field_word (field_of command))

-- the text of a word, where there is one
abbrev pub text_at : Option (Bor (List ℕ)) → Option (List ℕ)
text_at word = option_map (λ text. text.now) word

-- the word is a number in decimal digits, perhaps behind a plus sign
abbrev pub IsNumber : List ℕ → ℕ → Type 0
IsNumber word n = IsNumeral 10 (without_leading_plus word) × (n ≡ digits_value 10 (without_leading_plus word))

-- the word at N is the size of a made model
abbrev pub IsSizeWord : Option (List ℕ) → ℕ → Type 0
IsSizeWord (Some word) n = IsNumber word n × IsSize n
IsSizeWord None n = ⊥

-- these are the words at N and at FIELD for the made model of this size over this field
abbrev pub AreSizeWords : Option (List ℕ) → Option (List ℕ) → ℕ → Option FieldName → Type 0
AreSizeWords size field n named = IsSizeWord size n × (field ≡ field_word named)

-- a subcommand with its values is that of a request: by its name, and by the words at KIND or at N and at FIELD
abbrev pub Names : Option (Text × List Row) → Request → Type 0
Names (Some (name, values)) (OfInput command) =
    AreNamesOf name (first_of (codes "KIND") values) (first_of (codes "FIELD") values) command
Names (Some (name, values)) (Make n field) =
    (name ≡ codes "make") × AreSizeWords (first_of (codes "N") values) (first_of (codes "FIELD") values) n field
Names None request = ⊥

-- it is that of no request
abbrev pub NamesNone : Option (Text × List Row) → Type 0
NamesNone subcommand = (request : Request) → Names subcommand request → ⊥

-- the words ask for this
abbrev pub Asks : List (List ℕ) → Request → Type 0
Asks words request = AreTaken words × Names (subcommand_of command_line words) request

-- the words ask for this command on an input
abbrev pub AsksFor : List (List ℕ) → Command → Type 0
AsksFor words command = Asks words (OfInput command)

-- the words ask for the made model of this size over this field
abbrev pub AsksToMake : List (List ℕ) → ℕ → Option FieldName → Type 0
AsksToMake words n field = Asks words (Make n field)

-- the words ask for nothing
abbrev pub AsksForNothing : List (List ℕ) → Type 0
AsksForNothing words = (request : Request) → Asks words request → ⊥

-- the words ask for no command on an input
abbrev pub AsksForNoInput : List (List ℕ) → Type 0
AsksForNoInput words = (command : Command) → AsksFor words command → ⊥

-- why the words ask for nothing: clap's definition does not take them, or the kind or the field alone is unknown
abbrev pub IsWhy : List (List ℕ) → WordsError → Type 0
IsWhy words (Told text) = ¬ AreTaken words
IsWhy words UnknownWord = AreTaken words × AsksForNothing words
IsWhy words NoMemory = Unit {0}
