-- Why no model is given is why a certificate is not taken.
use Rattle.std.proofs.Common.{◌≡◌, inl, refl, subst, sym}
use Rattle.std.specs.Prelude.{Result, Ok, Err, IfErr}
use Rattle.std.specs.Result.{IsErrAnd}
use Rattle.cert_text.specs.Contents.{Certificate}
use Rattle.refusals.specs.declared.ReadModel.{ReadModel}
use Rattle.refusals.specs.declared.ReadModel.TheVariants.{NoMemory, Refused}
use Rattle.input_kinds.specs.Kinds.{IsWhyUnread}
use Rattle.cert_verdict.specs.Judging.{IsWhyNotTaken, why_no_model}
use Rattle.cert_verdict.specs.declared.judging.NotAccepted.{NotAccepted}

told : (c : Certificate) (error : ReadModel) → IsWhyUnread c.modulus c.kind c.echo error → IsWhyNotTaken c (why_no_model error)
told c (Refused refused) is = inl (refl, (refused, is))
told c NoMemory is = tt

pub why-no-model : {T : Type 0} (c : Certificate) (error : ReadModel) (r : Result T NotAccepted) →
    IsErrAnd r (λ why. why ≡ why_no_model error) → IsWhyUnread c.modulus c.kind c.echo error → IfErr r (IsWhyNotTaken c)
why-no-model {T} c error (Ok x) none is = tt
why-no-model {T} c error (Err why) same is = subst (IsWhyNotTaken c) (sym same) (told c error is)
