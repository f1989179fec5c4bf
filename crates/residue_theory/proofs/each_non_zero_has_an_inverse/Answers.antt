use Rattle.residue_theory.proofs.ResidueLaws.{inverse}
use Rattle.residue_theory.proofs.each_non_zero_has_an_inverse.Goals as goal

pub returns : goal.returns
returns c = inverse
