-- What becomes of the matrices of a sparse tableau where a row joins.
use Rattle.std.specs.Prelude.{ℕ, ◌+◌, ◌-◌, ◌*◌, ◌%◌, ◌<◌, ◌≡◌, ◌≢◌, ◌⊎◌, true}
use Rattle.residue_theory.specs.Sums.{sum_below}
use Rattle.linear_algebra.specs.Parts.{skip}
use Rattle.bit_table.specs.Bits.{Bits, bit_in}
use Rattle.sparse_q.specs.Tables.{SparseTable, sparse_rows, number_in, HasSize}
use Rattle.row_transform.specs.Bases.{BaseLists, is_base, base_row}
use Rattle.row_transform.specs.Entries.{HasTableSize}
use Rattle.sparse_tableau.specs.Sparse.{HasSameRoom}

-- b is a with the numbers x for its row r
pub record IsRowPut (a b : SparseTable) (r : ℕ) (x : ℕ → ℕ) : Type 0 where
  pub size : HasSize (sparse_rows a) a.width b
  pub room : HasSameRoom a b
  pub here : (j : ℕ) → j < a.width → number_in b r j ≡ x j
  pub others : (i j : ℕ) → i ≢ r → number_in b i j ≡ number_in a i j

-- b is a with the numbers x for its column v
pub record IsColumnPut (a b : SparseTable) (v : ℕ) (x : ℕ → ℕ) : Type 0 where
  pub size : HasSize (sparse_rows a) a.width b
  pub room : HasSameRoom a b
  pub here : (i : ℕ) → i < sparse_rows a → number_in b i v ≡ x i
  pub others : (i j : ℕ) → j ≢ v → number_in b i j ≡ number_in a i j

-- b is a with an empty row more, row r
pub record IsEmptyRowIn (a b : SparseTable) (r : ℕ) : Type 0 where
  pub size : HasSize (sparse_rows a + 1) a.width b
  pub room : HasSameRoom a b
  pub here : (j : ℕ) → number_in b r j ≡ 0
  pub others : (i j : ℕ) → number_in b (skip r i) j ≡ number_in a i j

-- b is a with an empty column more, column v
pub record IsEmptyColumnIn (a b : SparseTable) (v : ℕ) : Type 0 where
  pub size : HasSize (sparse_rows a) (a.width + 1) b
  pub room : HasSameRoom a b
  pub here : (i : ℕ) → number_in b i v ≡ 0
  pub others : (i j : ℕ) → number_in b i (skip v j) ≡ number_in a i j

-- b is a with a row more, the last one, and a column more, column v: there they have 1, and 0 elsewhere
pub record IsUnitIn (a b : SparseTable) (v : ℕ) : Type 0 where
  pub size : HasSize (sparse_rows a + 1) (a.width + 1) b
  pub room : HasSameRoom a b
  pub corner : number_in b (sparse_rows a) v ≡ 1
  pub row : (j : ℕ) → number_in b (sparse_rows a) (skip v j) ≡ 0
  pub column : (i : ℕ) → i < sparse_rows a → number_in b i v ≡ 0
  pub others : (i j : ℕ) → i < sparse_rows a → number_in b i (skip v j) ≡ number_in a i j

-- from row m of a, the last one, c i times row i was taken, for each row i before it
pub record IsLastCombined (p m : ℕ) (c : ℕ → ℕ) (a b : SparseTable) : Type 0 where
  pub size : HasSize (sparse_rows a) a.width b
  pub room : HasSameRoom a b
  pub row : (j : ℕ) → number_in b m j % p ≡ (number_in a m j + sum_below m (λ i. (p - 1) * c i * number_in a i j)) % p
  pub others : (i j : ℕ) → i ≢ m → number_in b i j ≡ number_in a i j

-- from row m of a, the last one, x times row r was taken
pub record IsLess (p m r x : ℕ) (a b : SparseTable) : Type 0 where
  pub size : HasSize (sparse_rows a) a.width b
  pub room : HasSameRoom a b
  pub row : (j : ℕ) → number_in b m j % p ≡ (number_in a m j + (p - 1) * x * number_in a r j) % p
  pub others : (i j : ℕ) → i ≢ m → number_in b i j ≡ number_in a i j

-- w is v with x at row r and column e; what is listed of v in b is listed in c, and this too
pub record IsFactorTold (r e x : ℕ) (v w : SparseTable) (b c : Bits) : Type 0 where
  pub size : HasSize (sparse_rows v) v.width w
  pub room : HasSameRoom v w
  pub here : number_in w r e ≡ x
  pub others : (i j : ℕ) → (i ≢ r) ⊎ (j ≢ e) → number_in w i j ≡ number_in v i j
  pub bits : HasTableSize b c
  pub listed : x ≢ 0 → bit_in c e r ≡ true
  pub kept : (i j : ℕ) → i < b.size → bit_in b j i ≡ true → bit_in c j i ≡ true

-- the rows of the base columns, of n columns, are among the first m, and no two have the same
pub record HasRowsApart (m n : ℕ) (b : BaseLists) : Type 0 where
  pub below : (y : ℕ) → y < n → is_base b y ≡ true → base_row b y < m
  pub distinct : (y z : ℕ) → y < n → z < n → is_base b y ≡ true → is_base b z ≡ true → base_row b y ≡ base_row b z →
      y ≡ z

-- S and P, with m rows and one behind them, lead to T and R, where from the last row x y times the row of each base
-- column y before k was taken; column e of w tells these numbers, which v had not
pub record IsJoinedTo (p m e k : ℕ) (x : ℕ → ℕ) (d : BaseLists) (S T P R v w : SparseTable) (b c : Bits) : Type 0 where
  pub on_s : IsLastCombined p m (λ i. number_in w i e) S T
  pub on_p : IsLastCombined p m (λ i. number_in w i e) P R
  pub size : HasSize (sparse_rows v) v.width w
  pub room : HasSameRoom v w
  pub done : (y : ℕ) → y < k → is_base d y ≡ true → number_in w (base_row d y) e ≡ x y
  pub bare : (i : ℕ) → i < m → ((y : ℕ) → y < k → is_base d y ≡ true → base_row d y ≢ i) → number_in w i e ≡ 0
  pub others : (i j : ℕ) → j ≢ e → number_in w i j ≡ number_in v i j
  pub last : (j : ℕ) → number_in w m j ≡ number_in v m j
  pub bits : HasTableSize b c
  pub listed : (i : ℕ) → i < m → number_in w i e ≢ 0 → bit_in c e i ≡ true
  pub kept : (i j : ℕ) → i < b.size → bit_in b j i ≡ true → bit_in c j i ≡ true
