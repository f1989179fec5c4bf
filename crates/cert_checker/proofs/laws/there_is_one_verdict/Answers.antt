use Rattle.cert_checker.proofs.OneVerdict.{not-both, one-rule}
use Rattle.cert_checker.proofs.laws.there_is_one_verdict.Goals as goal

pub returns : goal.returns
returns c p prime big M form is = (not-both p prime big M form is, one-rule p prime big M form is)
