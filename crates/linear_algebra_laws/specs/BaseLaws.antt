-- Laws of a base of unit columns, and of a tableau.
use Rattle.std.specs.Prelude.{ℕ, ◌%◌, ◌<◌, ◌≡◌, ◌↔◌, Bool, true}
use Rattle.residue_theory.specs.Sets.{both}
use Rattle.residue_theory.specs.Sums.{size_on}
use Rattle.residue_theory.specs.Residues.{IsPrime}
use Rattle.linear_algebra.specs.Columns.{IsIndependent, IsRank, Combines, IsCombination}
use Rattle.linear_algebra.specs.Products.{product, IsInverse, Agree}
use Rattle.linear_algebra.specs.Bases.{IsBase, HasNoBase}

-- a base is independent
abbrev pub BasesAreIndependent : Type 0
BasesAreIndependent =
    (p : ℕ) → IsPrime p → (P : ℕ → ℕ → ℕ) (m n : ℕ) (B : ℕ → Bool) (row : ℕ → ℕ) → IsBase p P m n B row →
    IsIndependent p P m n B

-- where X is zero at each row that has no base, and at each whose base is outside X,
-- its rank is the number of its base columns
abbrev pub BasesShowTheRank : Type 0
BasesShowTheRank =
    (p : ℕ) → IsPrime p → (P : ℕ → ℕ → ℕ) (m n : ℕ) (B : ℕ → Bool) (row : ℕ → ℕ) → IsBase p P m n B row →
    (X : ℕ → Bool) → ((i j : ℕ) → i < m → j < n → X j ≡ true → HasNoBase n (both B X) row i → P i j % p ≡ 0) →
    IsRank p P m n X (size_on (both B X) n)

-- a column is a combination of the base exactly where it is zero at each row without base
abbrev pub BasesSpanWhatIsZeroElsewhere : Type 0
BasesSpanWhatIsZeroElsewhere =
    (p : ℕ) → IsPrime p → (P : ℕ → ℕ → ℕ) (m n : ℕ) (B : ℕ → Bool) (row : ℕ → ℕ) → IsBase p P m n B row →
    (x : ℕ → ℕ) → Combines p P m n B x ↔ ((i : ℕ) → i < m → HasNoBase n B row i → x i % p ≡ 0)

-- in a tableau P = S * a, S invertible, a column of a is a combination of the base columns of a
-- exactly where P is zero in it at each row without base
abbrev pub TableauTellsTheSpan : Type 0
TableauTellsTheSpan =
    (p : ℕ) → IsPrime p → (m n : ℕ) (S U a P : ℕ → ℕ → ℕ) (B : ℕ → Bool) (row : ℕ → ℕ) →
    IsInverse p m S U → Agree p m n P (product m S a) → IsBase p P m n B row → (v : ℕ) → v < n →
    IsCombination p a m n B v ↔ ((i : ℕ) → i < m → HasNoBase n B row i → P i v % p ≡ 0)

-- and where X is zero in P at each row without base in X, its rank in a is the number of its base columns
abbrev pub TableauTellsTheRank : Type 0
TableauTellsTheRank =
    (p : ℕ) → IsPrime p → (m n : ℕ) (S U a P : ℕ → ℕ → ℕ) (B : ℕ → Bool) (row : ℕ → ℕ) →
    IsInverse p m S U → Agree p m n P (product m S a) → IsBase p P m n B row → (X : ℕ → Bool) →
    ((i j : ℕ) → i < m → j < n → X j ≡ true → HasNoBase n (both B X) row i → P i j % p ≡ 0) →
    IsRank p a m n X (size_on (both B X) n)

-- independent columns of a become a base of S * a, for some invertible S
abbrev pub IndependentColumnsBecomeABase : Type 0
IndependentColumnsBecomeABase =
    (p : ℕ) → IsPrime p → (m n : ℕ) (a : ℕ → ℕ → ℕ) (I : ℕ → Bool) → IsIndependent p a m n I →
    (S U : ℕ → ℕ → ℕ) × (row : ℕ → ℕ) × IsInverse p m S U × IsBase p (product m S a) m n I row
