use Rattle.residue_theory.proofs.ResidueLaws.{factor_vanishes}
use Rattle.residue_theory.proofs.product_vanishes_only_by_a_factor.Goals as goal

pub returns : goal.returns
returns c = factor_vanishes
