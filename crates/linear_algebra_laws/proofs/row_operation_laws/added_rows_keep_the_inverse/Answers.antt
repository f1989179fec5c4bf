use Rattle.linear_algebra_laws.proofs.InverseOperations.{inverse-row_added}
use Rattle.linear_algebra_laws.proofs.row_operation_laws.added_rows_keep_the_inverse.Goals as goal

pub returns : goal.returns
returns c = inverse-row_added
