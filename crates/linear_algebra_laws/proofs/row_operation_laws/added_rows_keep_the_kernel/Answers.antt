use Rattle.linear_algebra_laws.proofs.Kernels.{row_added-kernel}
use Rattle.linear_algebra_laws.proofs.row_operation_laws.added_rows_keep_the_kernel.Goals as goal

pub returns : goal.returns
returns c = row_added-kernel
