-- In which rows the columns of a matrix have entries, kept as a row of bits for each column.
use Rattle.std.specs.Prelude.{ℕ, ◌+◌, ◌%◌, ◌<◌, ◌≤◌, ◌≡◌, ◌≢◌, Bool, true, false}
use Rattle.linear_algebra.specs.Parts.{skip}
use Rattle.bit_table.specs.Bits.{Bits, bit_in}

-- b has a row of bits for each of n columns, and in it a bit for each of m rows, and perhaps room for more
pub record HasSizeOf (m n : ℕ) (b : Bits) : Type 0 where
  pub columns_fit : n ≤ b.rows
  pub rows_fit : m ≤ b.size

-- c has the size of b
pub record HasTableSize (b c : Bits) : Type 0 where
  pub rows_same : c.rows ≡ b.rows
  pub size_same : c.size ≡ b.size

-- what is listed in b for the n columns and m rows is listed in c
abbrev pub KeepsListed : ℕ → ℕ → Bits → Bits → Type 0
KeepsListed m n b c = (i j : ℕ) → i < m → j < n → bit_in b j i ≡ true → bit_in c j i ≡ true

-- row v of the bits of c is row w of b, and no other row changed
pub record IsBitRowCopied (b c : Bits) (v w : ℕ) : Type 0 where
  pub size : HasTableSize b c
  pub here : (i : ℕ) → i < b.size → bit_in c v i ≡ bit_in b w i
  pub others : (i j : ℕ) → i < b.size → j ≢ v → bit_in c j i ≡ bit_in b j i

-- c lists for n columns what b lists, with a column more, column v, for which it lists nothing
pub record IsColumnListedIn (n : ℕ) (b c : Bits) (v : ℕ) : Type 0 where
  pub size : HasTableSize b c
  pub empty : (i : ℕ) → i < b.size → bit_in c v i ≡ false
  pub others : (i j : ℕ) → i < b.size → j < n → bit_in c (skip v j) i ≡ bit_in b j i

-- c lists for n columns what b lists, without column v
pub record IsColumnListedOut (n : ℕ) (b c : Bits) (v : ℕ) : Type 0 where
  pub size : HasTableSize b c
  pub others : (i j : ℕ) → i < b.size → j + 1 < n → bit_in c j i ≡ bit_in b (skip v j) i

-- c lists for n columns what b lists, and row t wherever b lists row r
pub record IsRowListedAs (n : ℕ) (b c : Bits) (r t : ℕ) : Type 0 where
  pub size : HasTableSize b c
  pub listed : (j : ℕ) → j < n → bit_in b j r ≡ true → bit_in c j t ≡ true
  pub kept : (i j : ℕ) → i < b.size → bit_in b j i ≡ true → bit_in c j i ≡ true

-- of m rows and n columns, the bit of each place where the relation holds is set; where it does not, the bit may be set
-- too
pub record AreRowsListed (m n : ℕ) (HasEntry : ℕ → ℕ → Type 0) (b : Bits) : Type 0 where
  pub size : HasSizeOf m n b
  pub listed : (i j : ℕ) → i < m → j < n → HasEntry i j → bit_in b j i ≡ true

-- the places are those where a has an entry that is not zero modulo p
abbrev pub AreEntriesListed : ℕ → ℕ → ℕ → (ℕ → ℕ → ℕ) → Bits → Type 0
AreEntriesListed p m n a b = AreRowsListed m n (λ i j. a i j % p ≢ 0) b

-- c is b with room for what is added to the rows of column v of a, with m rows and n columns, from row r: each other
-- column that has an entry in row r has the rows of column v too
pub record IsSpread (m n : ℕ) (a : ℕ → ℕ → ℕ) (b c : ℕ → ℕ → Bool) (r v : ℕ) : Type 0 where
  pub kept : (i j : ℕ) → i < m → b j i ≡ true → c j i ≡ true
  pub joined : (i j : ℕ) → i < m → j < n → j ≢ v → a r j ≢ 0 → b v i ≡ true → c j i ≡ true
  pub column : (i : ℕ) → i < m → c v i ≡ b v i

-- c is b made ready for a pivot of a, with m rows and n columns, at row r and column v: column v has row r, and each
-- other column has what it had, and the rows of column v too if it has an entry in row r
pub record IsReadyForPivot (m n : ℕ) (a : ℕ → ℕ → ℕ) (b c : ℕ → ℕ → Bool) (r v : ℕ) : Type 0 where
  pub here : c v r ≡ true
  pub kept : (i j : ℕ) → i < m → j < n → j ≢ v → b j i ≡ true → c j i ≡ true
  pub joined : (i j : ℕ) → i < m → j < n → j ≢ v → a r j ≢ 0 → b v i ≡ true → c j i ≡ true
