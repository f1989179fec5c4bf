-- Why a certificate is not taken once its text is read.
use Rattle.cert_text.specs.Contents.{Certificate}
use Rattle.cert_verdict.specs.Verdicts.{BreaksFirstOfAll}
use Rattle.cert_verdict.specs.declared.judging.NotAccepted.{NotAccepted}
use Rattle.cert_verdict.specs.declared.judging.NotAccepted.TheVariants.{NoMemory, Refused as Unread, Rejected}
use Rattle.cert_reader.specs.declared.fault.ReadCert.{ReadCert}
use Rattle.cert_reader.specs.declared.fault.ReadCert.TheVariants.{NoMemory as NoRoomToRead, Refused as BadLine}
use Rattle.refusals.specs.declared.ReadModel.{ReadModel}
use Rattle.refusals.specs.declared.ReadModel.TheVariants.{NoMemory as NoRoomForModel, Refused as NoModel}
use Rattle.cert_checker.specs.declared.checking.CheckError.{CheckError}
use Rattle.cert_checker.specs.declared.checking.CheckError.TheVariants.{NoMemory as NoRoomToCheck, Reject}

-- it breaks this rule first, or memory ran out
abbrev pub IsWhyNotTaken : Certificate → NotAccepted → Type 0
IsWhyNotTaken c (Unread line) = ⊥
IsWhyNotTaken c (Rejected rule) = BreaksFirstOfAll c rule
IsWhyNotTaken c NoMemory = Unit {0}

-- what is said where the text is read as no certificate
abbrev pub why_unread : ReadCert → NotAccepted
why_unread (BadLine line) = Unread line
why_unread NoRoomToRead = NoMemory

-- where the echo gives no model: rule 1 is broken
abbrev pub why_no_model : ReadModel → NotAccepted
why_no_model (NoModel refused) = Rejected 1
why_no_model NoRoomForModel = NoMemory

-- and where a rule after the first is broken
abbrev pub why_not_taken : CheckError → NotAccepted
why_not_taken (Reject rule) = Rejected rule
why_not_taken NoRoomToCheck = NoMemory
