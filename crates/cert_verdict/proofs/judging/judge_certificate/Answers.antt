use Rattle.cert_verdict.proofs.judging.judge_certificate.Goals as goal

pub returns-clause-keeps : goal.returns-clause-keeps
returns-clause-keeps g c = record {
  model = c.in_ok-accept_certificate.field-0.model;
  gives = c.in_ok-accept_certificate.ensures.gives;
  right = c.in_ok-accept_certificate.ensures.right;
}
