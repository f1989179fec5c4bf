use Rattle.cert_checker.proofs.OneVerdict.{right-for}
use Rattle.cert_checker.proofs.laws.right_for_one_is_right.Goals as goal

pub returns : goal.returns
returns c p prime big M L O lay form is right = right-for p prime big M form is L O lay right
