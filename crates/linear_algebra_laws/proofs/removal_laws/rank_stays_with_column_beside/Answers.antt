use Rattle.linear_algebra_laws.proofs.ColumnBeside.{beside-stays, stays-beside}
use Rattle.linear_algebra_laws.proofs.removal_laws.rank_stays_with_column_beside.Goals as goal

pub returns : goal.returns
returns c p prime a x m n r s R T =
    (stays-beside p m n a x prime r s R T, beside-stays p m n a x prime r s R T)
