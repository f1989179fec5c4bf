-- Laws of a tableau P = S * a, S * U = 1, with a base of unit columns, where a gains or loses a row or a column.
use Rattle.std.specs.Prelude.{ℕ, ◌+◌, ◌-◌, ◌%◌, ◌<◌, ◌≤◌, ◌≡◌, ◌≢◌, ◌↔◌, Bool, true, false}
use Rattle.residue_theory.specs.Residues.{IsPrime}
use Rattle.residue_theory.specs.Sets.{without}
use Rattle.linear_algebra.specs.Bases.{IsBase, HasNoBase}
use Rattle.linear_algebra.specs.Columns.{IsIndependent}
use Rattle.linear_algebra.specs.Parts.{skip, unskip, without_row, without_column}
use Rattle.linear_algebra.specs.Products.{product, Agree, IsInverse}
use Rattle.row_table.specs.Places.{with_unit}
use Rattle.row_table.specs.Reductions.{IsReduced}
use Rattle.tableau_edit_laws.specs.Edits.{AreRowsBut, IsRowJoined, IsRowIn, IsZeroColumnIn, last_for}

-- where row k alone has an entry in column e of S, row e of a may go: with it row k of S and P, column e of S, row e of
-- U and its column k
abbrev pub RowsLeaveTableaus : Type 0
RowsLeaveTableaus =
    (p m n : ℕ) (a S U P : ℕ → ℕ → ℕ) (e k : ℕ) → e < m → k < m →
    IsInverse p m S U → Agree p m n P (product m S a) → ((i : ℕ) → i < m → i ≢ k → S i e % p ≡ 0) →
    IsInverse p (m - 1) (without_column e (without_row k S)) (without_row e (without_column k U))
    × Agree p (m - 1) n (without_row k P) (product (m - 1) (without_column e (without_row k S)) (without_row e a))

-- and so where the rows that are left stand in another order
abbrev pub RowsLeaveInAnyOrder : Type 0
RowsLeaveInAnyOrder =
    (p m n : ℕ) (a S U P : ℕ → ℕ → ℕ) (e k : ℕ) (from : ℕ → ℕ) → e < m → AreRowsBut m k from →
    IsInverse p m S U → Agree p m n P (product m S a) → ((i : ℕ) → i < m → i ≢ k → S i e % p ≡ 0) →
    IsInverse p (m - 1) (λ i t. S (from i) (skip e t)) (λ t i. U (skip e t) (from i))
    × Agree p (m - 1) n (λ i j. P (from i) j) (product (m - 1) (λ i t. S (from i) (skip e t)) (without_row e a))

-- with the last row in the place of row k
abbrev pub LastRowsTakePlaces : Type 0
LastRowsTakePlaces = (m k : ℕ) → k < m → AreRowsBut m k (last_for m k)

-- base columns of other rows than k are a base without row k
abbrev pub BasesLeaveRows : Type 0
BasesLeaveRows =
    (p m n : ℕ) (P : ℕ → ℕ → ℕ) (B C : ℕ → Bool) (row : ℕ → ℕ) (k : ℕ) → k < m → IsBase p P m n B row →
    ((b : ℕ) → b < n → C b ≡ true → (B b ≡ true) × (row b ≢ k)) →
    IsBase p (without_row k P) (m - 1) n C (λ b. unskip k (row b))

-- in any order of the rows that are left; `now` tells the places of the rows of base columns
abbrev pub BasesLeaveRowsInAnyOrder : Type 0
BasesLeaveRowsInAnyOrder =
    (p m n : ℕ) (P : ℕ → ℕ → ℕ) (B C : ℕ → Bool) (row now : ℕ → ℕ) (k : ℕ) (from : ℕ → ℕ) → AreRowsBut m k from →
    IsBase p P m n B row →
    ((b : ℕ) → b < n → C b ≡ true → (B b ≡ true) × (now b + 1 < m) × (from (now b) ≡ row b)) →
    IsBase p (λ i j. P (from i) j) (m - 1) n C now

-- the base columns are independent without row e exactly where column e of S has an entry at a row without base column
abbrev pub BasesStayIndependentWithoutARow : Type 0
BasesStayIndependentWithoutARow =
    (p : ℕ) → IsPrime p → (m n : ℕ) (a S U P : ℕ → ℕ → ℕ) (B : ℕ → Bool) (row : ℕ → ℕ) (e : ℕ) → e < m →
    IsInverse p m S U → Agree p m n P (product m S a) → IsBase p P m n B row →
    IsIndependent p (without_row e a) (m - 1) n B ↔ ((i : ℕ) × (i < m) × HasNoBase n B row i × (S i e % p ≢ 0))

-- where column e of S has an entry at the row of a base column, the others are independent without row e
abbrev pub BasesLoseAColumnWithARow : Type 0
BasesLoseAColumnWithARow =
    (p : ℕ) → IsPrime p → (m n : ℕ) (a S U P : ℕ → ℕ → ℕ) (B : ℕ → Bool) (row : ℕ → ℕ) (e b : ℕ) → e < m → b < n →
    B b ≡ true → IsInverse p m S U → Agree p m n P (product m S a) → IsBase p P m n B row → S (row b) e % p ≢ 0 →
    IsIndependent p (without_row e a) (m - 1) n (without B b)

-- a row joins a tableau: what is made of it is a tableau again
abbrev pub RowsJoinTableaus : Type 0
RowsJoinTableaus =
    (p m n : ℕ) (a b S U P T V R : ℕ → ℕ → ℕ) (e k : ℕ) (x c d : ℕ → ℕ) → e ≤ m → k ≤ m → 1 < p →
    IsInverse p m S U → Agree p m n P (product m S a) → IsRowIn p m n a b e x →
    IsRowJoined p m n S U P T V R e k x c d →
    IsInverse p (m + 1) T V × Agree p (m + 1) n R (product (m + 1) T b)

-- and where d is the opposite of x at each base column, at its row, the base stays
abbrev pub BasesKeepAJoinedRow : Type 0
BasesKeepAJoinedRow =
    (p m n : ℕ) (S U P T V R : ℕ → ℕ → ℕ) (e k : ℕ) (x c d : ℕ → ℕ) (B : ℕ → Bool) (row : ℕ → ℕ) → k ≤ m → 1 < p →
    IsRowJoined p m n S U P T V R e k x c d → IsBase p P m n B row →
    ((b : ℕ) → b < n → B b ≡ true → (d (row b) + x b) % p ≡ 0) →
    IsBase p R (m + 1) n B (λ b. skip k (row b))

-- a column of zeros joins
abbrev pub ColumnsJoinTableaus : Type 0
ColumnsJoinTableaus =
    (p m n : ℕ) (a b S P R : ℕ → ℕ → ℕ) (B C : ℕ → Bool) (row now : ℕ → ℕ) (v : ℕ) → v ≤ n →
    Agree p m n P (product m S a) → IsZeroColumnIn p m n a b v → IsZeroColumnIn p m n P R v → IsBase p P m n B row →
    ((j : ℕ) → j < n → C (skip v j) ≡ B j) → ((j : ℕ) → j < n → B j ≡ true → now (skip v j) ≡ row j) → C v ≡ false →
    Agree p m (n + 1) R (product m S b) × IsBase p R m (n + 1) C now

-- a column that is no base column leaves
abbrev pub ColumnsLeaveTableaus : Type 0
ColumnsLeaveTableaus =
    (p m n : ℕ) (a S P : ℕ → ℕ → ℕ) (B : ℕ → Bool) (row : ℕ → ℕ) (v : ℕ) → v < n →
    Agree p m n P (product m S a) → IsBase p P m n B row → B v ≡ false →
    Agree p m (n - 1) (without_column v P) (product m S (without_column v a))
    × IsBase p (without_column v P) m (n - 1) (λ j. B (skip v j)) (λ j. row (skip v j))

-- a pivot at row k and column e of S, where that is not zero, leaves row k alone with an entry there: what is made of S
-- and P alike is a tableau again, with the unit column of row e for column k of U
abbrev pub PivotsInSClearAColumn : Type 0
PivotsInSClearAColumn =
    (p : ℕ) → IsPrime p → (m n : ℕ) (a S U P T R : ℕ → ℕ → ℕ) (e k : ℕ) → e < m → k < m → S k e % p ≢ 0 →
    IsInverse p m S U → Agree p m n P (product m S a) → IsReduced p m m S T k (λ i. S i e) →
    IsReduced p m n P R k (λ i. S i e) →
    IsInverse p m T (with_unit U e k) × Agree p m n R (product m T a) ×
    ((i : ℕ) → i < m → i ≢ k → T i e % p ≡ 0)

-- and the base columns of other rows stay
abbrev pub PivotsInSKeepOtherRows : Type 0
PivotsInSKeepOtherRows =
    (p : ℕ) → IsPrime p → (m n : ℕ) (P R : ℕ → ℕ → ℕ) (k : ℕ) (c : ℕ → ℕ) (B C : ℕ → Bool) (row : ℕ → ℕ) → k < m →
    c k % p ≢ 0 → IsReduced p m n P R k c → IsBase p P m n B row →
    ((b : ℕ) → b < n → C b ≡ true → (B b ≡ true) × (row b ≢ k)) →
    IsBase p R m n C row

-- some row of S has an entry in its column e
abbrev pub SomeRowOfSHasAnEntry : Type 0
SomeRowOfSHasAnEntry =
    (p : ℕ) → IsPrime p → (m : ℕ) (S U : ℕ → ℕ → ℕ) (e : ℕ) → e < m → IsInverse p m S U →
    (k : ℕ) × (k < m) × (S k e % p ≢ 0)
