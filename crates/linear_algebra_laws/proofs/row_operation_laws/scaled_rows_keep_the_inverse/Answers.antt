use Rattle.linear_algebra_laws.proofs.InverseOperations.{inverse-row_scaled}
use Rattle.linear_algebra_laws.proofs.row_operation_laws.scaled_rows_keep_the_inverse.Goals as goal

pub returns : goal.returns
returns c p prime m S T V W t f g inv left right = inverse-row_scaled p m S T V W t f g inv left right prime
