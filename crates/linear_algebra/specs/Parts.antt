-- Parts of a matrix, matrices put together, and a matrix without a row or a column.
use Rattle.std.specs.Prelude.{ℕ, ◌+◌, ◌-◌, ◌<◌, ◌%◌, ◌≡◌, Bool, cond, leb, ltb, eqb, ◌&&◌}

-- the entries at the rows of R and the columns of X; every other entry is 0
abbrev pub part : (ℕ → Bool) → (ℕ → Bool) → (ℕ → ℕ → ℕ) → ℕ → ℕ → ℕ
part R X a i j = cond (R i && X j) (a i j) 0

-- the m rows of a, and below them the rows of b
abbrev pub above : ℕ → (ℕ → ℕ → ℕ) → (ℕ → ℕ → ℕ) → ℕ → ℕ → ℕ
above m a b i j = cond (ltb i m) (a i j) (b (i - m) j)

-- the n columns of a, and after them the column x
abbrev pub with_column : ℕ → (ℕ → ℕ → ℕ) → (ℕ → ℕ) → ℕ → ℕ → ℕ
with_column n a x i j = cond (ltb j n) (a i j) (x i)

-- the numbers in order, but for v
abbrev pub skip : ℕ → ℕ → ℕ
skip v k = cond (ltb k v) k (k + 1)

-- the place of k among the numbers but v
abbrev pub unskip : ℕ → ℕ → ℕ
unskip v k = cond (leb k v) k (k - 1)

-- a without its row v
abbrev pub without_row : ℕ → (ℕ → ℕ → ℕ) → ℕ → ℕ → ℕ
without_row v a i j = a (skip v i) j

-- a without its column v
abbrev pub without_column : ℕ → (ℕ → ℕ → ℕ) → ℕ → ℕ → ℕ
without_column v a i j = a i (skip v j)

-- a with the entry x at row r and column v
abbrev pub with_entry : (ℕ → ℕ → ℕ) → ℕ → ℕ → ℕ → ℕ → ℕ → ℕ
with_entry a r v x i j = cond (eqb i r && eqb j v) x (a i j)

-- the numbers whose part is h
abbrev pub in_part : (ℕ → ℕ) → ℕ → ℕ → Bool
in_part part_of h j = eqb (part_of j) h

-- the diagonal part h of a matrix whose rows and columns stand in parts
abbrev pub diagonal : (ℕ → ℕ) → (ℕ → ℕ) → (ℕ → ℕ → ℕ) → ℕ → ℕ → ℕ → ℕ
diagonal row_part column_part a h = part (in_part row_part h) (in_part column_part h) a

-- below the diagonal parts all is zero: at each row of a part and column of an earlier one
abbrev pub IsBlockTriangular : ℕ → (ℕ → ℕ → ℕ) → ℕ → ℕ → (ℕ → ℕ) → (ℕ → ℕ) → Type 0
IsBlockTriangular p a m n row_part column_part =
    (i j : ℕ) → i < m → j < n → column_part j < row_part i → a i j % p ≡ 0
