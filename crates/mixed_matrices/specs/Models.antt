-- Mixed matrices: the matrix of a model, whose entries are numbers that are known and symbols that are free (Murota,
-- chapter 4).
use Rattle.std.specs.Prelude.{ℕ, ◌+◌, ◌<◌, ◌≡◌, Bool, cond}
use Rattle.linear_algebra.specs.Products.{Agree}

-- at each place a constant, which may be 0, and perhaps a symbol; rows are equations and columns unknowns
pub record MixedMatrix : Type 0 where
  pub rows : ℕ
  pub columns : ℕ
  pub constant : ℕ → ℕ → ℕ
  pub symbol : ℕ → ℕ → Bool

-- the numbers v at the symbols of t, and 0 elsewhere
abbrev pub numbers : (ℕ → ℕ → Bool) → (ℕ → ℕ → ℕ) → ℕ → ℕ → ℕ
numbers t v i j = cond (t i j) (v i j) 0

-- M(v): at each place the constant and, where a symbol stands, its number in v
abbrev pub value : MixedMatrix → (ℕ → ℕ → ℕ) → ℕ → ℕ → ℕ
value M v i j = M.constant i j + numbers M.symbol v i j

-- M and N have the same sizes, the same constants modulo p, and the same symbols
pub record AreSameModels (p : ℕ) (M N : MixedMatrix) : Type 0 where
  pub rows : M.rows ≡ N.rows
  pub columns : M.columns ≡ N.columns
  pub constants : Agree p M.rows M.columns M.constant N.constant
  pub symbols : (i j : ℕ) → i < M.rows → j < M.columns → M.symbol i j ≡ N.symbol i j
