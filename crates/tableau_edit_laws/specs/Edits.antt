-- A matrix with a row or a column more or less, told by the numbers in order but for one (`skip`), and rows in another
-- order.
use Rattle.std.specs.Prelude.{ℕ, ◌+◌, ◌-◌, ◌*◌, ◌%◌, ◌<◌, ◌≡◌, ◌≢◌, cond, eqb}
use Rattle.residue_theory.specs.Sums.{sum_below}
use Rattle.linear_algebra.specs.Parts.{skip}

-- b is a with the row x put in as row e: a has m rows, and both have n columns
pub record IsRowIn (p m n : ℕ) (a b : ℕ → ℕ → ℕ) (e : ℕ) (x : ℕ → ℕ) : Type 0 where
  pub here : (j : ℕ) → j < n → b e j % p ≡ x j % p
  pub others : (i j : ℕ) → i < m → j < n → b (skip e i) j % p ≡ a i j % p

-- b is a with a column of zeros put in as column v: both have m rows, and a has n columns
pub record IsZeroColumnIn (p m n : ℕ) (a b : ℕ → ℕ → ℕ) (v : ℕ) : Type 0 where
  pub here : (i : ℕ) → i < m → b i v % p ≡ 0
  pub others : (i j : ℕ) → i < m → j < n → b i (skip v j) % p ≡ a i j % p

-- the row x joins the tableau S, U, P, with m rows and n columns, as row e of the matrix and row k of S and P: it is x
-- with d i times row i of P. The tableau is T, V, R afterwards; c is the opposite of d
pub record IsRowJoined (p m n : ℕ) (S U P T V R : ℕ → ℕ → ℕ) (e k : ℕ) (x c d : ℕ → ℕ) : Type 0 where
  pub opposite : (i : ℕ) → i < m → (d i + c i) % p ≡ 0
  pub s_corner : T k e % p ≡ 1
  pub s_row : (t : ℕ) → t < m → T k (skip e t) % p ≡ sum_below m (λ i. d i * S i t) % p
  pub s_column : (i : ℕ) → i < m → T (skip k i) e % p ≡ 0
  pub s_others : (i t : ℕ) → i < m → t < m → T (skip k i) (skip e t) % p ≡ S i t % p
  pub u_corner : V e k % p ≡ 1
  pub u_row : (i : ℕ) → i < m → V e (skip k i) % p ≡ c i % p
  pub u_column : (t : ℕ) → t < m → V (skip e t) k % p ≡ 0
  pub u_others : (t i : ℕ) → t < m → i < m → V (skip e t) (skip k i) % p ≡ U t i % p
  pub p_row : (j : ℕ) → j < n → R k j % p ≡ (sum_below m (λ i. d i * P i j) + x j) % p
  pub p_others : (i j : ℕ) → i < m → j < n → R (skip k i) j % p ≡ P i j % p

-- the numbers below m but k, each at a place of its own below m - 1: `from` tells which stands there
pub record AreRowsBut (m k : ℕ) (from : ℕ → ℕ) : Type 0 where
  pub below : (i : ℕ) → i + 1 < m → from i < m
  pub others : (i : ℕ) → i + 1 < m → from i ≢ k
  pub distinct : (i j : ℕ) → i + 1 < m → j + 1 < m → from i ≡ from j → i ≡ j

-- they stay where they are, but for the last one, which takes the place of k
abbrev pub last_for : ℕ → ℕ → ℕ → ℕ
last_for m k i = cond (eqb i k) (m - 1) i
