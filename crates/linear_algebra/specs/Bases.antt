-- A base of unit columns.
use Rattle.std.specs.Prelude.{ℕ, ◌%◌, ◌<◌, ◌≡◌, ◌≢◌, Bool, true}

-- each column b of B is the unit column of its row: 1 there, 0 elsewhere; no two have the same row
pub record IsBase (p : ℕ) (a : ℕ → ℕ → ℕ) (m n : ℕ) (B : ℕ → Bool) (row : ℕ → ℕ) : Type 0 where
  pub row_below : (b : ℕ) → b < n → B b ≡ true → row b < m
  pub one : (b : ℕ) → b < n → B b ≡ true → a (row b) b % p ≡ 1
  pub zero : (b i : ℕ) → b < n → B b ≡ true → i < m → i ≢ row b → a i b % p ≡ 0
  pub distinct : (b c : ℕ) → b < n → c < n → B b ≡ true → B c ≡ true → row b ≡ row c → b ≡ c

-- row i is the row of no column of B
abbrev pub HasNoBase : ℕ → (ℕ → Bool) → (ℕ → ℕ) → ℕ → Type 0
HasNoBase n B row i = (b : ℕ) → b < n → B b ≡ true → row b ≢ i

-- column v is now the base column of row r; the column that was it before is none now, and all others stay.
-- There are n columns; B and row are the base before, C and now the base after
pub record IsBaseTaken (n : ℕ) (B : ℕ → Bool) (row : ℕ → ℕ) (C : ℕ → Bool) (now : ℕ → ℕ) (r v : ℕ) : Type 0 where
  pub member : C v ≡ true
  pub at_row : now v ≡ r
  pub only : (y : ℕ) → y < n → y ≢ v → C y ≡ true → (B y ≡ true) × (row y ≢ r) × (now y ≡ row y)
  pub kept : (y : ℕ) → y < n → y ≢ v → B y ≡ true → row y ≢ r → C y ≡ true
