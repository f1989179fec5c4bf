-- Laws of independent columns and of the rank.
use Rattle.std.specs.Prelude.{ℕ, ◌+◌, ◌%◌, ◌<◌, ◌≤◌, ◌≡◌, Bool, true, false}
use Rattle.residue_theory.specs.Sets.{everything, with_one, both, either, IsWithin}
use Rattle.residue_theory.specs.Sums.{size_on}
use Rattle.residue_theory.specs.Residues.{IsPrime}
use Rattle.linear_algebra.specs.Columns.{IsIndependent, IsRank, IsCombination}
use Rattle.linear_algebra.specs.Products.{transposed}

-- modulo a prime, every set of columns has a rank, and only one
abbrev pub EachSetHasOneRank : Type 0
EachSetHasOneRank =
    (p : ℕ) → IsPrime p → (a : ℕ → ℕ → ℕ) (m n : ℕ) (X : ℕ → Bool) →
    (r : ℕ) × IsRank p a m n X r × ((s : ℕ) → IsRank p a m n X s → s ≡ r)

-- an independent set Z within X is part of an independent set within X of the rank's size
abbrev pub IndependentSetsExtend : Type 0
IndependentSetsExtend =
    (p : ℕ) → IsPrime p → (a : ℕ → ℕ → ℕ) (m n : ℕ) (X Z : ℕ → Bool) (r : ℕ) →
    IsWithin n Z X → IsIndependent p a m n Z → IsRank p a m n X r →
    (I : ℕ → Bool) × IsWithin n Z I × IsWithin n I X × IsIndependent p a m n I × (size_on I n ≡ r)

-- where each column of X is a combination of an independent set I within X, the rank is the size of I
abbrev pub SpanningSetsShowTheRank : Type 0
SpanningSetsShowTheRank =
    (p : ℕ) → IsPrime p → (a : ℕ → ℕ → ℕ) (m n : ℕ) (X I : ℕ → Bool) →
    IsWithin n I X → IsIndependent p a m n I → ((j : ℕ) → j < n → X j ≡ true → IsCombination p a m n I j) →
    IsRank p a m n X (size_on I n)

-- and an independent set within X of the rank's size combines to each column of X
abbrev pub LargestSetsSpan : Type 0
LargestSetsSpan =
    (p : ℕ) → IsPrime p → (a : ℕ → ℕ → ℕ) (m n : ℕ) (X I : ℕ → Bool) →
    IsWithin n I X → IsIndependent p a m n I → IsRank p a m n X (size_on I n) →
    (j : ℕ) → j < n → X j ≡ true → IsCombination p a m n I j

-- a column that is no combination of an independent set is independent with it
abbrev pub OtherColumnsJoin : Type 0
OtherColumnsJoin =
    (p : ℕ) → IsPrime p → (a : ℕ → ℕ → ℕ) (m n : ℕ) (I : ℕ → Bool) (v : ℕ) → v < n →
    IsIndependent p a m n I → (IsCombination p a m n I v → ⊥) → IsIndependent p a m n (with_one I v)

-- an independent set of combinations of I has at most as many columns as I
abbrev pub CombinationsAreNoMore : Type 0
CombinationsAreNoMore =
    (p : ℕ) → IsPrime p → (a : ℕ → ℕ → ℕ) (m n : ℕ) (I Y : ℕ → Bool) →
    ((j : ℕ) → j < n → Y j ≡ true → IsCombination p a m n I j) → IsIndependent p a m n Y →
    size_on Y n ≤ size_on I n

-- an independent set that is zero at the rows outside R has at most as many columns as R has rows
abbrev pub ColumnsAreNoMoreThanRows : Type 0
ColumnsAreNoMoreThanRows =
    (p : ℕ) → IsPrime p → (a : ℕ → ℕ → ℕ) (m n : ℕ) (R Y : ℕ → Bool) →
    ((i j : ℕ) → i < m → j < n → R i ≡ false → Y j ≡ true → a i j % p ≡ 0) → IsIndependent p a m n Y →
    size_on Y n ≤ size_on R m

-- so the rank of X is at most the number of rows that are not zero on X
abbrev pub RankIsAtMostTheRows : Type 0
RankIsAtMostTheRows =
    (p : ℕ) → IsPrime p → (a : ℕ → ℕ → ℕ) (m n : ℕ) (R X : ℕ → Bool) (r : ℕ) →
    ((i j : ℕ) → i < m → j < n → R i ≡ false → X j ≡ true → a i j % p ≡ 0) → IsRank p a m n X r →
    r ≤ size_on R m

-- a larger set has no smaller rank
abbrev pub RankIsMonotone : Type 0
RankIsMonotone =
    (p : ℕ) → IsPrime p → (a : ℕ → ℕ → ℕ) (m n : ℕ) (X Y : ℕ → Bool) (r s : ℕ) →
    IsWithin n X Y → IsRank p a m n X r → IsRank p a m n Y s → r ≤ s

-- rank (X or Y) + rank (X and Y) ≤ rank X + rank Y
abbrev pub RankIsSubmodular : Type 0
RankIsSubmodular =
    (p : ℕ) → IsPrime p → (a : ℕ → ℕ → ℕ) (m n : ℕ) (X Y : ℕ → Bool) (r s u v : ℕ) →
    IsRank p a m n X r → IsRank p a m n Y s → IsRank p a m n (either X Y) u → IsRank p a m n (both X Y) v →
    u + v ≤ r + s

-- rank (X or Y) ≤ rank X + rank Y
abbrev pub RankIsSubadditive : Type 0
RankIsSubadditive =
    (p : ℕ) → IsPrime p → (a : ℕ → ℕ → ℕ) (m n : ℕ) (X Y : ℕ → Bool) (r s u : ℕ) →
    IsRank p a m n X r → IsRank p a m n Y s → IsRank p a m n (either X Y) u → u ≤ r + s

-- one more column keeps the rank, or adds one
abbrev pub OneMoreColumnAddsAtMostOne : Type 0
OneMoreColumnAddsAtMostOne =
    (p : ℕ) → IsPrime p → (a : ℕ → ℕ → ℕ) (m n : ℕ) (X : ℕ → Bool) (v r s : ℕ) → v < n →
    IsRank p a m n X r → IsRank p a m n (with_one X v) s → (r ≤ s) × (s ≤ r + 1)

-- the rank by rows is the rank by columns
abbrev pub TransposesHaveTheRank : Type 0
TransposesHaveTheRank =
    (p : ℕ) → IsPrime p → (m n : ℕ) (a : ℕ → ℕ → ℕ) (r : ℕ) →
    IsRank p a m n everything r → IsRank p (transposed a) n m everything r
