use Rattle.linear_algebra_laws.proofs.Kernels.{kernel_of-agree}
use Rattle.linear_algebra_laws.proofs.row_operation_laws.entries_decide_the_kernel.Goals as goal

pub returns : goal.returns
returns c = kernel_of-agree
