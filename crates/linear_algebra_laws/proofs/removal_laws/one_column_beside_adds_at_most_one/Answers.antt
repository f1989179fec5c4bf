use Rattle.linear_algebra_laws.proofs.ColumnBeside.{beside-at_most}
use Rattle.linear_algebra_laws.proofs.removal_laws.one_column_beside_adds_at_most_one.Goals as goal

pub returns : goal.returns
returns c p prime a x m n = beside-at_most p m n a x prime
