-- Each text has a verdict.
use Rattle.std.proofs.Common.{ℕ, ◌⊎◌, List, inl, inr, refl}
use Rattle.mixed_model.specs.Models.{MixedModel, mixed_matrix_of}
use Rattle.cert_text.specs.Contents.{Certificate}
use Rattle.cert_reader.specs.CertLines.{IsCertificate, IsOfCertificate}
use Rattle.cert_reader.proofs.Theorem.{read_or_refused}
use Rattle.input_kinds.specs.Kinds.{GivesModel}
use Rattle.input_kinds.proofs.ByKind.{answered}
use Rattle.cert_verdict.specs.Verdicts.{BreaksFirstOfAll, IsAccepted, IsRejectedBy, KeepsAllRules}
use Rattle.cert_verdict.proofs.OneVerdict.{big-modulus, prime-modulus}
use Rattle.existence_laws.specs.Verdicts.{EachTextHasAVerdict}
use Rattle.existence_laws.proofs.FormVerdicts.{has-verdict}

-- of a certificate whose echo gives a model
by-form : (c : Certificate) → IsCertificate c → (model : MixedModel) → GivesModel c.modulus c.kind c.echo model →
    KeepsAllRules c ⊎ ((rule : ℕ) × BreaksFirstOfAll c rule)
by-form c is model gives =
    elim (has-verdict c.modulus (prime-modulus c is) (big-modulus c is) (mixed_matrix_of model) c.ccf is.ccf) [
      | inl right ↦ inl (record { model = model; gives = gives; right = right })
      | inr rejected ↦ inr (rejected.0, inr (model, gives, rejected.1))
    ]

pub kept_or_broken : (c : Certificate) → IsCertificate c → KeepsAllRules c ⊎ ((rule : ℕ) × BreaksFirstOfAll c rule)
kept_or_broken c is = elim (answered c.modulus (prime-modulus c is) (big-modulus c is) c.kind c.echo) [
  | inl given ↦ by-form c is given.0 given.1
  | inr refused ↦ inr (1, inl (refl, refused))
]

of-certificate : (text : List ℕ) → IsOfCertificate text → IsAccepted text ⊎ ((rule : ℕ) × IsRejectedBy text rule)
of-certificate text of = elim (kept_or_broken of.certificate of.is) [
  | inl keeps ↦ inl (record { certificate = of.certificate; is = of.is; text_is = of.text_is; keeps = keeps })
  | inr broken ↦ inr (
    broken.0,
    record { certificate = of.certificate; is = of.is; text_is = of.text_is; broken = broken.1 },
  )
]

pub text-verdict : EachTextHasAVerdict
text-verdict text short = elim (read_or_refused text short) [
  | inl of ↦ elim (of-certificate text of) [
    | inl accepted ↦ inl accepted
    | inr rejected ↦ inr (inl rejected)
  ]
  | inr refused ↦ inr (inr refused)
]
