-- Texts that answer nothing.
use Rattle.std.specs.Prelude.{◌≡◌, ℕ, List, [], ◌++◌, Option, None, Some, codes}
use Rattle.cert_text.specs.Texts.{kind_text}
use Rattle.cert_text.specs.declared.kind.Kind.{Kind}
use Rattle.cert_text.specs.declared.kind.Kind.TheVariants.{Matrix}
use Rattle.report_cli.specs.Answer.{IsAnswer}
use Rattle.command_line.specs.Words.{AsksFor}
use Rattle.command_line.specs.declared.command.Command.{Command}
use Rattle.command_line.specs.declared.command.Command.TheVariants.{OfModel}
use Rattle.residue_field.specs.declared.field_name.FieldName.{FieldName}
use Rattle.residue_field.specs.declared.field_name.FieldName.TheVariants.{Large, Small}
use Rattle.command_line.specs.declared.command.Task.TheVariants.{Analyse, Layer}
use Rattle.run_ends.specs.declared.status.Status.TheVariants.{Done}

-- the command never answers this input by this text
abbrev pub NeverAnswers : Command → List ℕ → List ℕ → Type 0
NeverAnswers command input text = (words : List (List ℕ)) → AsksFor words command → IsAnswer words input Done text → ⊥

-- how a certificate begins where this field is named
abbrev pub first_lines : Option FieldName → List ℕ
first_lines None = codes "mixed-certificate 1\n"
first_lines (Some Small) = codes "mixed-certificate 2\nfield 65521\n"
first_lines (Some Large) = codes "mixed-certificate 2\nfield 2147483647\n"

-- the text of a certificate of the empty input of a kind, with these parts, where this field is named
abbrev pub empty_certificate : Option FieldName → Kind → List ℕ → List ℕ
empty_certificate field kind parts =
    first_lines field ++ codes "kind " ++ kind_text kind
    ++ codes "\nlength 0\n\nshape 0 0 0 0 0\nrank 0\nbase\nmatch\n" ++ parts ++ codes "end\n"

-- the certificate of the empty input
abbrev pub empty_text : Option FieldName → Kind → List ℕ
empty_text field kind = empty_certificate field kind (codes "first |\nlast |\n")

-- the empty input has that certificate alone
abbrev pub TheEmptyInputHasOneAnswer : Type 0
TheEmptyInputHasOneAnswer =
    (words : List (List ℕ)) (kind : Kind) (field : Option FieldName) (text : List ℕ) →
    AsksFor words (OfModel Analyse kind field) → IsAnswer words [] Done text → text ≡ empty_text field kind

-- a first tail with a column that is not there
abbrev pub NoColumnIsMadeUp : Type 0
NoColumnIsMadeUp =
    (kind : Kind) →
    NeverAnswers (OfModel Analyse kind None) [] (empty_certificate None kind (codes "first 6 |\nlast |\n"))

-- a block of nothing
abbrev pub NoBlockIsEmpty : Type 0
NoBlockIsEmpty =
    (kind : Kind) →
    NeverAnswers (OfModel Analyse kind None) [] (empty_certificate None kind (codes "first |\nblock 1: | |\nlast |\n"))

-- one equation in one unknown, as an equation list
abbrev pub one_equation : List ℕ
one_equation = codes "eq a x=1\n"

-- a text with a base column, entries and columns of a tail past the last column
abbrev pub out_of_range : List ℕ
out_of_range =
    codes "mixed-certificate 1\nkind matrix\nlength 9\neq a x=1\n\nshape 1 1 1 0 1\nrank 1\nbase 1=8\nmatch\n"
    ++ codes "S 1: 1=1 1=5\nU 1: 1=1\nP 1: 1=1 8=1\nfirst 9 9 |\nblock 1: 1 | q1 |\nlast |\nend\n"

abbrev pub NoListLeavesItsRange : Type 0
NoListLeavesItsRange = NeverAnswers (OfModel Analyse Matrix None) one_equation out_of_range

-- a line for a column that is not there
abbrev pub NoColumnLineIsMadeUp : Type 0
NoColumnLineIsMadeUp = NeverAnswers (OfModel Layer Matrix None) one_equation
    (codes "columns 1\nc1 x\nc2 x\nq1 a 1=1\n")
