use Rattle.linear_algebra_laws.proofs.Kernels.{kernel-sym, rank_of-kernel}
use Rattle.linear_algebra_laws.proofs.row_operation_laws.same_kernel_has_the_rank.Goals as goal

pub returns : goal.returns
returns c p m n a b kernel X r =
    (rank_of-kernel p m n a b X r kernel, rank_of-kernel p m n b a X r (kernel-sym p m n a b kernel))
