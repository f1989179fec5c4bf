-- What any two answers to one input share.
use Rattle.std.specs.Prelude.{◌≡◌, ℕ, List, Option}
use Rattle.cert_text.specs.Texts.{certificate_text}
use Rattle.cert_text.specs.Contents.{Certificate}
use Rattle.cert_text.specs.declared.kind.Kind.{Kind}
use Rattle.certificate_laws.specs.Agreement.{AgreeInParts}
use Rattle.report_cli.specs.Answer.{IsAnswer}
use Rattle.residue_field.specs.Modulus.{modulus_of}
use Rattle.report_cli.specs.Fields.{certificate_version}
use Rattle.report_cli.specs.RightFor.{IsRightForInput}
use Rattle.command_line.specs.Words.{Asks, AsksFor, AsksToMake, over}
use Rattle.residue_field.specs.declared.field_name.FieldName.{FieldName}
use Rattle.command_line.specs.declared.command.Request.{Request}
use Rattle.command_line.specs.declared.command.Command.TheVariants.{OfModel}
use Rattle.command_line.specs.declared.command.Task.TheVariants.{Analyse, Layer}
use Rattle.run_ends.specs.declared.status.Status.TheVariants.{Done}

-- the texts are those of two certificates over the field that is named, both right for the input of this kind, that
-- agree
pub record AreAgreed (field : Option FieldName) (kind : Kind) (input text other : List ℕ) : Type 0 where
  pub first : Certificate
  pub second : Certificate
  pub first_text : text ≡ certificate_text first
  pub second_text : other ≡ certificate_text second
  pub first_right : IsRightForInput (modulus_of (over field)) (certificate_version field) kind input first
  pub second_right : IsRightForInput (modulus_of (over field)) (certificate_version field) kind input second
  pub agree : AgreeInParts first.ccf second.ccf

abbrev pub AnswersOfAnalyseAgree : Type 0
AnswersOfAnalyseAgree =
    (words : List (List ℕ)) (kind : Kind) (field : Option FieldName) (input text other : List ℕ) →
    AsksFor words (OfModel Analyse kind field) →
    IsAnswer words input Done text → IsAnswer words input Done other → AreAgreed field kind input text other

abbrev pub AnswersOfLayerAreOne : Type 0
AnswersOfLayerAreOne =
    (words : List (List ℕ)) (kind : Kind) (field : Option FieldName) (input text other : List ℕ) →
    AsksFor words (OfModel Layer kind field) →
    IsAnswer words input Done text → IsAnswer words input Done other → text ≡ other

-- any two texts about a made model over one field are the same, whatever the inputs are
abbrev pub AnswersOfMakeAreOne : Type 0
AnswersOfMakeAreOne =
    (words : List (List ℕ)) (n : ℕ) (field : Option FieldName) (input another text other : List ℕ) →
    AsksToMake words n field →
    IsAnswer words input Done text → IsAnswer words another Done other → text ≡ other

-- words ask for one thing at most
abbrev pub WordsAskForOneThing : Type 0
WordsAskForOneThing = (words : List (List ℕ)) (a b : Request) → Asks words a → Asks words b → a ≡ b
