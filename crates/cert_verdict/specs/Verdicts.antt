-- What the text of a certificate is worth, over the field that it tells.
use Rattle.std.specs.Prelude.{ℕ, ◌≤◌, ◌≡◌, ◌≢◌, ◌⊎◌, List, Result, Ok, Err, length}
use Rattle.refusals.specs.declared.Refused.{Refused}
use Rattle.mixed_model.specs.Models.{MixedModel, mixed_matrix_of}
use Rattle.cert_text.specs.Contents.{Certificate}
use Rattle.cert_text.specs.Texts.{certificate_text}
use Rattle.cert_reader.specs.CertLines.{IsCertificate, IsNoCertificate}
use Rattle.cert_reader.specs.Limits.{certificate_limit}
use Rattle.cert_checker.specs.Answers.{IsRejected, IsRightFor}
use Rattle.input_kinds.specs.Kinds.{GivesModel, IsRefused}
use Rattle.cert_verdict.specs.declared.judging.NotAccepted.{NotAccepted}
use Rattle.cert_verdict.specs.declared.judging.NotAccepted.TheVariants.{NoMemory, Refused as Unread, Rejected}

-- rules 1 to 12: the echo gives a model of its kind, and the form is right for that model
pub record KeepsAllRules (c : Certificate) : Type 0 where
  pub model : MixedModel
  pub gives : GivesModel c.modulus c.kind c.echo model
  pub right : IsRightFor c.modulus (mixed_matrix_of model) c.ccf

-- this is the number of the first rule that is broken: rule 1, as the echo gives no model, or one of the others
abbrev pub BreaksFirstOfAll : Certificate → ℕ → Type 0
BreaksFirstOfAll c rule = ((rule ≡ 1) × ((refused : Refused) × IsRefused c.modulus c.kind c.echo refused))
    ⊎ ((model : MixedModel) × GivesModel c.modulus c.kind c.echo model
    × IsRejected c.modulus (mixed_matrix_of model) c.ccf rule)

-- the text is that of a certificate that keeps all rules
pub record IsAccepted (text : List ℕ) : Type 0 where
  pub certificate : Certificate
  pub is : IsCertificate certificate
  pub text_is : text ≡ certificate_text certificate
  pub keeps : KeepsAllRules certificate

-- the text is that of this certificate, which keeps all rules, and its echo gives this model
pub record IsAcceptedAs (text : List ℕ) (certificate : Certificate) (model : MixedModel) : Type 0 where
  pub is : IsCertificate certificate
  pub text_is : text ≡ certificate_text certificate
  pub gives : GivesModel certificate.modulus certificate.kind certificate.echo model
  pub right : IsRightFor certificate.modulus (mixed_matrix_of model) certificate.ccf

-- the text is that of a certificate, and this rule is the first that it breaks
pub record IsRejectedBy (text : List ℕ) (rule : ℕ) : Type 0 where
  pub certificate : Certificate
  pub is : IsCertificate certificate
  pub text_is : text ≡ certificate_text certificate
  pub broken : BreaksFirstOfAll certificate rule

-- why a text is not accepted: no certificate has it, or it breaks a rule, or memory ran out
abbrev pub IsWhyNotAccepted : List ℕ → NotAccepted → Type 0
IsWhyNotAccepted text (Unread line) = IsNoCertificate text line
IsWhyNotAccepted text (Rejected rule) = IsRejectedBy text rule
IsWhyNotAccepted text NoMemory = Unit {0}

-- what is said of a text
abbrev pub IsVerdict : List ℕ → Result (Unit {0}) NotAccepted → Type 0
IsVerdict text (Ok accepted) = IsAccepted text
IsVerdict text (Err why) = IsWhyNotAccepted text why

-- of a text one thing is said, but for want of memory
abbrev pub TextsHaveOneVerdict : Type 0
TextsHaveOneVerdict =
    (text : List ℕ) → length text ≤ certificate_limit → (a b : Result (Unit {0}) NotAccepted) →
    IsVerdict text a → IsVerdict text b → a ≢ Err NoMemory → b ≢ Err NoMemory → a ≡ b
