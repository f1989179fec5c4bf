-- Laws of a matrix with one row or one column less, or one more.
use Rattle.std.specs.Prelude.{ℕ, ◌+◌, ◌-◌, ◌*◌, ◌%◌, ◌<◌, ◌≤◌, ◌≡◌, ◌≢◌, ◌↔◌, Bool, true}
use Rattle.residue_theory.specs.Sets.{everything, without, IsWithin}
use Rattle.residue_theory.specs.Sums.{sum_below}
use Rattle.residue_theory.specs.Residues.{IsPrime}
use Rattle.linear_algebra.specs.Columns.{IsRank, Combines, IsCombination}
use Rattle.linear_algebra.specs.Products.{product, identity, transposed, IsInverse, Agree}
use Rattle.linear_algebra.specs.Bases.{IsBase, HasNoBase}
use Rattle.linear_algebra.specs.Parts.{without_row, without_column, with_column}

-- one more row keeps the rank, or adds one
abbrev pub OneMoreRowAddsAtMostOne : Type 0
OneMoreRowAddsAtMostOne =
    (p : ℕ) → IsPrime p → (a : ℕ → ℕ → ℕ) (m n : ℕ) (X : ℕ → Bool) (r s : ℕ) →
    IsRank p a m n X r → IsRank p a (m + 1) n X s → (r ≤ s) × (s ≤ r + 1)

-- without a row the rank is the same, or one less
abbrev pub OneRowLessTakesAtMostOne : Type 0
OneRowLessTakesAtMostOne =
    (p : ℕ) → IsPrime p → (a : ℕ → ℕ → ℕ) (m n : ℕ) (X : ℕ → Bool) (e r s : ℕ) → e < m →
    IsRank p a m n X r → IsRank p (without_row e a) (m - 1) n X s → (s ≤ r) × (r ≤ s + 1)

-- without row e the rank stays exactly where the unit column of row e is no combination of the columns
abbrev pub RankStaysWithoutRow : Type 0
RankStaysWithoutRow =
    (p : ℕ) → IsPrime p → (a : ℕ → ℕ → ℕ) (m n : ℕ) (X : ℕ → Bool) (e r s : ℕ) → e < m →
    IsRank p a m n X r → IsRank p (without_row e a) (m - 1) n X s →
    (s ≡ r) ↔ (Combines p a m n X (λ i. identity i e) → ⊥)

-- and it falls by one exactly where it is one
abbrev pub RankFallsWithoutRow : Type 0
RankFallsWithoutRow =
    (p : ℕ) → IsPrime p → (a : ℕ → ℕ → ℕ) (m n : ℕ) (X : ℕ → Bool) (e r s : ℕ) → e < m →
    IsRank p a m n X r → IsRank p (without_row e a) (m - 1) n X s →
    (s + 1 ≡ r) ↔ Combines p a m n X (λ i. identity i e)

-- in a tableau P = S * a, S invertible, let the base B be within X, and the columns of X be zero in P at each row
-- without base: without row e of a the rank of X stays exactly where column e of S is not zero at some row without base
abbrev pub TableauTellsTheRowsThatMayGo : Type 0
TableauTellsTheRowsThatMayGo =
    (p : ℕ) → IsPrime p → (a S U P : ℕ → ℕ → ℕ) (m n : ℕ) (B X : ℕ → Bool) (row : ℕ → ℕ) (e r s : ℕ) → e < m →
    IsInverse p m S U → Agree p m n P (product m S a) → IsBase p P m n B row → IsWithin n B X →
    ((i j : ℕ) → i < m → j < n → X j ≡ true → HasNoBase n B row i → P i j % p ≡ 0) →
    IsRank p a m n X r → IsRank p (without_row e a) (m - 1) n X s →
    (s ≡ r) ↔ ((i : ℕ) × (i < m) × HasNoBase n B row i × (S i e % p ≢ 0))

-- without a column the rank is the same, or one less
abbrev pub OneColumnLessTakesAtMostOne : Type 0
OneColumnLessTakesAtMostOne =
    (p : ℕ) → IsPrime p → (a : ℕ → ℕ → ℕ) (m n v r s : ℕ) → v < n →
    IsRank p a m n everything r → IsRank p (without_column v a) m (n - 1) everything s → (s ≤ r) × (r ≤ s + 1)

-- without column v the rank stays exactly where column v is a combination of the others
abbrev pub RankStaysWithoutColumn : Type 0
RankStaysWithoutColumn =
    (p : ℕ) → IsPrime p → (a : ℕ → ℕ → ℕ) (m n v r s : ℕ) → v < n →
    IsRank p a m n everything r → IsRank p (without_column v a) m (n - 1) everything s →
    (s ≡ r) ↔ IsCombination p a m n (without everything v) v

-- with a column x beside all columns the rank is the same, or one more
abbrev pub OneColumnBesideAddsAtMostOne : Type 0
OneColumnBesideAddsAtMostOne =
    (p : ℕ) → IsPrime p → (a : ℕ → ℕ → ℕ) (x : ℕ → ℕ) (m n r s : ℕ) →
    IsRank p a m n everything r → IsRank p (with_column n a x) m (n + 1) everything s → (r ≤ s) × (s ≤ r + 1)

-- and it stays exactly where x is a combination of the columns
abbrev pub RankStaysWithColumnBeside : Type 0
RankStaysWithColumnBeside =
    (p : ℕ) → IsPrime p → (a : ℕ → ℕ → ℕ) (x : ℕ → ℕ) (m n r s : ℕ) →
    IsRank p a m n everything r → IsRank p (with_column n a x) m (n + 1) everything s →
    (s ≡ r) ↔ Combines p a m n everything x

-- without row e the rank stays exactly where row e is a combination of the other rows
abbrev pub RankStaysWithoutACombinedRow : Type 0
RankStaysWithoutACombinedRow =
    (p : ℕ) → IsPrime p → (a : ℕ → ℕ → ℕ) (m n e r s : ℕ) → e < m →
    IsRank p a m n everything r → IsRank p (without_row e a) (m - 1) n everything s →
    (s ≡ r) ↔ IsCombination p (transposed a) n m (without everything e) e

-- and the rank of X stays where the rows combine to zero on X with a coefficient of row e that is not zero
abbrev pub RankOfASetStaysWithoutACombinedRow : Type 0
RankOfASetStaysWithoutACombinedRow =
    (p : ℕ) → IsPrime p → (a : ℕ → ℕ → ℕ) (m n : ℕ) (X : ℕ → Bool) (e r s : ℕ) (y : ℕ → ℕ) → e < m →
    y e % p ≢ 0 → ((j : ℕ) → j < n → X j ≡ true → sum_below m (λ t. y t * a t j) % p ≡ 0) →
    IsRank p a m n X r → IsRank p (without_row e a) (m - 1) n X s → s ≡ r
