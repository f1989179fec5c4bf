use Rattle.std.proofs.Common.{refl}
use Rattle.residue_theory.specs.Sets.{everything}
use Rattle.linear_algebra_laws.proofs.ColumnRemoval.{removed_column-at_most}
use Rattle.linear_algebra_laws.proofs.removal_laws.one_column_less_takes_at_most_one.Goals as goal

pub returns : goal.returns
returns c p prime a m n v r s vl R T = removed_column-at_most p m n a v vl prime everything refl r s R T
