-- Laws of row operations and of products with an invertible matrix.
use Rattle.std.specs.Prelude.{ℕ, ◌+◌, ◌*◌, ◌%◌, ◌<◌, ◌≡◌, ◌≢◌, ◌↔◌, Bool, cond, eqb}
use Rattle.residue_theory.specs.Residues.{IsPrime}
use Rattle.linear_algebra.specs.Columns.{IsIndependent, IsRank}
use Rattle.linear_algebra.specs.Kernels.{SameKernel}
use Rattle.linear_algebra.specs.Products.{product, transposed, Agree, IsInverse}
use Rattle.linear_algebra.specs.Bases.{IsBase, HasNoBase}
use Rattle.residue_theory.specs.Sets.{with_one}
use Rattle.linear_algebra.specs.RowOperations.{IsRowAdded, IsRowScaled, IsPivoted}

-- for square matrices, S * U = 1 alone shows that U * S = 1
abbrev pub InverseOnOneSideIsInverse : Type 0
InverseOnOneSideIsInverse =
    (p : ℕ) → IsPrime p → (m : ℕ) (S U : ℕ → ℕ → ℕ) → IsInverse p m S U → IsInverse p m U S

-- columns are independent in a exactly where they are in S * a, for an invertible S
abbrev pub InvertibleProductsKeepIndependence : Type 0
InvertibleProductsKeepIndependence =
    (p : ℕ) → IsPrime p → (m n : ℕ) (S U a : ℕ → ℕ → ℕ) → IsInverse p m S U → (X : ℕ → Bool) →
    IsIndependent p a m n X ↔ IsIndependent p (product m S a) m n X

-- so the ranks are the same
abbrev pub InvertibleProductsKeepTheRank : Type 0
InvertibleProductsKeepTheRank =
    (p : ℕ) → IsPrime p → (m n : ℕ) (S U a : ℕ → ℕ → ℕ) → IsInverse p m S U → (X : ℕ → Bool) (r : ℕ) →
    IsRank p a m n X r ↔ IsRank p (product m S a) m n X r

-- a multiple of a row added to another keeps which coefficients combine the columns to zero
abbrev pub AddedRowsKeepTheKernel : Type 0
AddedRowsKeepTheKernel =
    (p m n : ℕ) (a b : ℕ → ℕ → ℕ) (t s k : ℕ) → IsRowAdded p m n a b t s k → t ≢ s → t < m → s < m →
    SameKernel p m n a b

-- and so does a row multiplied by a number that is not zero
abbrev pub ScaledRowsKeepTheKernel : Type 0
ScaledRowsKeepTheKernel =
    (p : ℕ) → IsPrime p → (m n : ℕ) (a b : ℕ → ℕ → ℕ) (t k : ℕ) → IsRowScaled p m n a b t k → t < m → k % p ≢ 0 →
    SameKernel p m n a b

-- with the same kernel, every set of columns has the same rank
abbrev pub SameKernelHasTheRank : Type 0
SameKernelHasTheRank =
    (p m n : ℕ) (a b : ℕ → ℕ → ℕ) → SameKernel p m n a b → (X : ℕ → Bool) (r : ℕ) →
    IsRank p a m n X r ↔ IsRank p b m n X r

-- matrices whose entries agree modulo p have the same kernel
abbrev pub EntriesDecideTheKernel : Type 0
EntriesDecideTheKernel = (p m n : ℕ) (a b : ℕ → ℕ → ℕ) → Agree p m n a b → SameKernel p m n a b

-- with f times row s added to row t of S, and the opposite on the transpose V of its inverse,
-- -f times row t added to row s, they are inverse again
abbrev pub AddedRowsKeepTheInverse : Type 0
AddedRowsKeepTheInverse =
    (p m : ℕ) (S T V W : ℕ → ℕ → ℕ) (t s f g : ℕ) → IsInverse p m S (transposed V) →
    IsRowAdded p m m S T t s f → IsRowAdded p m m V W s t g → t ≢ s → t < m → s < m → (f + g) % p ≡ 0 →
    IsInverse p m T (transposed W)

-- and with row t of S multiplied by f, and row t of V by the inverse of f
abbrev pub ScaledRowsKeepTheInverse : Type 0
ScaledRowsKeepTheInverse =
    (p : ℕ) → IsPrime p → (m : ℕ) (S T V W : ℕ → ℕ → ℕ) (t f g : ℕ) → IsInverse p m S (transposed V) →
    IsRowScaled p m m S T t f → IsRowScaled p m m V W t g → t < m → (f * g) % p ≡ 1 →
    IsInverse p m T (transposed W)
