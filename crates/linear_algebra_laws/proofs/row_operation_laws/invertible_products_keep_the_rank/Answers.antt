use Rattle.std.proofs.Common.{refl}
use Rattle.linear_algebra.specs.Kernels.{SameKernel}
use Rattle.linear_algebra.specs.Products.{product}
use Rattle.linear_algebra_laws.proofs.Products.{product-kernel}
use Rattle.linear_algebra_laws.proofs.Kernels.{kernel-sym, rank_of-kernel}
use Rattle.linear_algebra_laws.proofs.row_operation_laws.invertible_products_keep_the_rank.Goals as goal

pub returns : goal.returns
returns c p prime m n S U a inv X r =
    let kernel : SameKernel p m n a (product m S a) = product-kernel p prime m n S U a (product m S a) inv (λ i j _ _. refl) in
    (rank_of-kernel p m n a (product m S a) X r kernel, rank_of-kernel p m n (product m S a) a X r (kernel-sym p m n a (product m S a) kernel))
