use Rattle.std.proofs.Common.{ℕ}
use Rattle.linear_algebra.specs.Bases.{IsBase}
use Rattle.linear_algebra.specs.Products.{IsInverse, product}
use Rattle.linear_algebra_laws.proofs.Transforms.{Transformed, made-base, transformed_base}
use Rattle.linear_algebra_laws.proofs.base_laws.independent_columns_become_a_base.Goals as goal

pub returns : goal.returns
returns c p prime m n a I ind = go (transformed_base p prime m n a I ind)
  where
    go : Transformed p m n a I → (S U : ℕ → ℕ → ℕ) × (row : ℕ → ℕ) × IsInverse p m S U × IsBase p (product m S a) m n I row
    go T = (T.S, T.U, T.row, T.inverse, made-base p m n a I T)
