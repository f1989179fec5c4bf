use Rattle.certificate_laws.proofs.AgreedForms.{agreed}
use Rattle.certificate_laws.proofs.agreement.right_forms_agree.Goals as goal

pub returns : goal.returns
returns c = agreed
