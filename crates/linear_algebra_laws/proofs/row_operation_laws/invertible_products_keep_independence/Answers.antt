use Rattle.std.proofs.Common.{refl}
use Rattle.linear_algebra.specs.Kernels.{SameKernel}
use Rattle.linear_algebra.specs.Products.{product}
use Rattle.linear_algebra_laws.proofs.Products.{product-kernel}
use Rattle.linear_algebra_laws.proofs.Kernels.{kernel-sym, independent_of-kernel}
use Rattle.linear_algebra_laws.proofs.row_operation_laws.invertible_products_keep_independence.Goals as goal

pub returns : goal.returns
returns c p prime m n S U a inv X =
    let kernel : SameKernel p m n a (product m S a) = product-kernel p prime m n S U a (product m S a) inv (λ i j _ _. refl) in
    (independent_of-kernel p m n a (product m S a) X kernel, independent_of-kernel p m n (product m S a) a X (kernel-sym p m n a (product m S a) kernel))
