-- A pivot of a matrix told by what leads back: a is b with row r spread over all rows.
use Rattle.std.specs.Prelude.{ℕ, ◌+◌, ◌*◌, ◌%◌, ◌<◌, ◌≡◌, ◌≢◌, cond, eqb}
use Rattle.residue_theory.specs.Residues.{IsPrime}
use Rattle.linear_algebra.specs.Products.{product, Agree, IsInverse}
use Rattle.linear_algebra.specs.RowOperations.{IsPivoted}

-- a is F * b, where F is the identity matrix with k for its column r; a and b are m by n
pub record IsReduced (p m n : ℕ) (a b : ℕ → ℕ → ℕ) (r : ℕ) (k : ℕ → ℕ) : Type 0 where
  pub here : (j : ℕ) → j < n → a r j % p ≡ k r * b r j % p
  pub others : (i j : ℕ) → i < m → j < n → i ≢ r → a i j % p ≡ (b i j + k i * b r j) % p

-- a with x for its column r
abbrev pub with_column_as : (ℕ → ℕ → ℕ) → ℕ → (ℕ → ℕ) → ℕ → ℕ → ℕ
with_column_as a r x i j = cond (eqb j r) (x i) (a i j)

-- With P = S * q and S * U = 1, let P and S be reduced alike at row r, by column v of P. Then column v of q in the
-- place of
-- column r makes U the inverse of the new S, and the new P is the product again. Nothing else is needed.
abbrev pub ColumnsOfTheFirstMakeTheInverse : Type 0
ColumnsOfTheFirstMakeTheInverse =
    (p : ℕ) → IsPrime p → (m n : ℕ) (q S U P S' P' : ℕ → ℕ → ℕ) (r v : ℕ) → r < m → v < n →
    Agree p m n P (product m S q) → IsInverse p m S U →
    IsReduced p m n P P' r (λ i. P i v) → IsReduced p m m S S' r (λ i. P i v) →
    IsInverse p m S' (with_column_as U r (λ i. q i v)) × Agree p m n P' (product m S' q)

-- a matrix that is reduced by its column v, at a row where that is not zero, is pivoted there
abbrev pub ReductionsArePivots : Type 0
ReductionsArePivots =
    (p : ℕ) → IsPrime p → (m n : ℕ) (a b : ℕ → ℕ → ℕ) (r v : ℕ) → r < m → v < n → a r v % p ≢ 0 →
    IsReduced p m n a b r (λ i. a i v) → IsPivoted p m n a b r v

-- a and b have m rows and n columns: each row of a that is zero in column v stays in b, other than row r
abbrev pub ZeroRowsStay : ℕ → ℕ → ℕ → (ℕ → ℕ → ℕ) → (ℕ → ℕ → ℕ) → ℕ → ℕ → Type 0
ZeroRowsStay p m n a b r v = (i j : ℕ) → i < m → j < n → i ≢ r → a i v % p ≡ 0 → b i j % p ≡ a i j % p

-- a and b have m rows and m columns: each column of a that is zero in row r stays in b
abbrev pub ZeroColumnsStay : ℕ → ℕ → (ℕ → ℕ → ℕ) → (ℕ → ℕ → ℕ) → ℕ → Type 0
ZeroColumnsStay p m a b r = (j : ℕ) → j < m → a r j % p ≡ 0 → (i : ℕ) → i < m → b i j % p ≡ a i j % p
