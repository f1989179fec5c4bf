use Rattle.linear_algebra_laws.proofs.Products.{inverse-swap}
use Rattle.linear_algebra_laws.proofs.row_operation_laws.inverse_on_one_side_is_inverse.Goals as goal

pub returns : goal.returns
returns c = inverse-swap
