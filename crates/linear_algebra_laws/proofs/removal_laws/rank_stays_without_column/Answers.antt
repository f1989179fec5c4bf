use Rattle.std.proofs.Common.{refl}
use Rattle.residue_theory.specs.Sets.{everything}
use Rattle.linear_algebra_laws.proofs.ColumnRemoval.{column-stays, stays-column}
use Rattle.linear_algebra_laws.proofs.removal_laws.rank_stays_without_column.Goals as goal

pub returns : goal.returns
returns c p prime a m n v r s vl R T =
    (stays-column p m n a v vl prime everything refl r s R T, column-stays p m n a v vl prime everything refl r s R T)
