use Rattle.std.proofs.Common.{subst}
use Rattle.cert_text.specs.Contents.{Certificate}
use Rattle.input_kinds.specs.Kinds.{IsWhyUnread}
use Rattle.cert_verdict.proofs.WhyNot.{why-no-model}
use Rattle.cert_verdict.proofs.judging.echoed_model.Goals as goal

pub returns-in_err-read_model-clause-broken : goal.returns-in_err-read_model-clause-broken
returns-in_err-read_model-clause-broken g c =
    let error = c.in_err-read_model.field-0.0 in
    why-no-model c.args.certificate.now error c.from_residual.result c.from_residual.ensures.1
    (subst (λ (certificate : Certificate). IsWhyUnread certificate.modulus certificate.kind certificate.echo error) c.certificate.view_is
    (subst (λ text. IsWhyUnread g.F.Field.modulus c.certificate.inside.kind text error) c.as_slice.ensures c.in_err-read_model.ensures.refused))
