use Rattle.linear_algebra_laws.proofs.Kernels.{row_scaled-kernel}
use Rattle.linear_algebra_laws.proofs.row_operation_laws.scaled_rows_keep_the_kernel.Goals as goal

pub returns : goal.returns
returns c p prime m n a b t k scaled = row_scaled-kernel p m n a b t k scaled prime
