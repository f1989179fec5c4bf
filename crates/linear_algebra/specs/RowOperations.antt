-- What a row operation does to a matrix.
use Rattle.std.specs.Prelude.{ℕ, ◌+◌, ◌*◌, ◌%◌, ◌<◌, ◌≡◌, ◌≢◌}
use Rattle.linear_algebra.specs.Kernels.{SameKernel}

-- b is a with k times row s added to row t
pub record IsRowAdded (p m n : ℕ) (a b : ℕ → ℕ → ℕ) (t s k : ℕ) : Type 0 where
  pub changed : (j : ℕ) → j < n → b t j % p ≡ (a t j + k * a s j) % p
  pub others : (i j : ℕ) → i < m → j < n → i ≢ t → b i j % p ≡ a i j % p

-- b is a with row t multiplied by k
pub record IsRowScaled (p m n : ℕ) (a b : ℕ → ℕ → ℕ) (t k : ℕ) : Type 0 where
  pub changed : (j : ℕ) → j < n → b t j % p ≡ k * a t j % p
  pub others : (i j : ℕ) → i < m → j < n → i ≢ t → b i j % p ≡ a i j % p

-- b is a after a pivot at row r and column v: column v is now the unit column of row r,
-- the columns that were zero in row r stay, and b has the kernel of a
pub record IsPivoted (p m n : ℕ) (a b : ℕ → ℕ → ℕ) (r v : ℕ) : Type 0 where
  pub kernel : SameKernel p m n a b
  pub one : b r v % p ≡ 1
  pub zero : (i : ℕ) → i < m → i ≢ r → b i v % p ≡ 0
  pub keeps : (j : ℕ) → j < n → a r j % p ≡ 0 → (i : ℕ) → i < m → b i j % p ≡ a i j % p
