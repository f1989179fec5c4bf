-- A tableau of a matrix Q: P = S * Q for an invertible S, with some columns of P as a base of unit columns.
use Rattle.std.specs.Prelude.{ℕ, ◌%◌, ◌<◌, ◌≤◌, ◌≡◌, Bool, true, false, eqb, not, length}
use Rattle.linear_algebra.specs.Bases.{IsBase, IsBaseTaken, HasNoBase}
use Rattle.linear_algebra.specs.Products.{product, identity, Agree, IsInverse}
use Rattle.linear_algebra.specs.RowOperations.{IsPivoted}
use Rattle.residue_theory.specs.Ranges.{HasNone}
use Rattle.row_transform.specs.Bases.{BaseLists, is_base, base_row, IsBaseDropped}
use Rattle.row_transform.specs.declared.tableau.Which.{Which}
use Rattle.row_transform.specs.declared.tableau.Which.TheVariants.{S, U, P}
use Rattle.dense_q.specs.Tables.{Table, height, entry}

-- how many rows and columns there are; the matrices q, s, u and p; which columns are base columns, and the row of each
pub record TableauState : Type 0 where
  pub rows : ℕ
  pub columns : ℕ
  pub q : ℕ → ℕ → ℕ
  pub s : ℕ → ℕ → ℕ
  pub u : ℕ → ℕ → ℕ
  pub p : ℕ → ℕ → ℕ
  pub base : ℕ → Bool
  pub row : ℕ → ℕ

-- p is s * q, u is the inverse of s, and each base column of p is the unit column of its row
pub record IsTableau (modulus : ℕ) (t : TableauState) : Type 0 where
  pub product_is : Agree modulus t.rows t.columns t.p (product t.rows t.s t.q)
  pub inverse : IsInverse modulus t.rows t.s t.u
  pub unit_columns : IsBase modulus t.p t.rows t.columns t.base t.row

-- P has an entry in row r and column y that is not zero
abbrev pub has_entry : ℕ → TableauState → ℕ → ℕ → Bool
has_entry modulus t r y = not (eqb (t.p r y % modulus) 0)

-- the matrix, and how many columns it has
abbrev pub matrix_which : Which → TableauState → ℕ → ℕ → ℕ
matrix_which S t = t.s
matrix_which U t = t.u
matrix_which P t = t.p

abbrev pub width_of : Which → TableauState → ℕ
width_of S t = t.rows
width_of U t = t.rows
width_of P t = t.columns

-- the matrix has an entry in row r and column y that is not zero
abbrev pub has_entry_of : Which → TableauState → ℕ → ℕ → Bool
has_entry_of which t r y = not (eqb (matrix_which which t r y) 0)

-- of the rows from `from` on and before end r is one that may hold; no row before it does
pub record IsCandidate (test : ℕ → Bool) (from end r : ℕ) : Type 0 where
  pub from_on : from ≤ r
  pub before_end : r < end
  pub none_before : HasNone test from r

-- the lists tell the base columns and their rows
pub record IsBaseOf (t : TableauState) (b : BaseLists) : Type 0 where
  pub base_is : t.base ≡ is_base b
  pub row_is : t.row ≡ base_row b
  pub rows_are : length b.columns ≡ t.rows
  pub columns_are : length b.rows ≡ t.columns

-- column y is the base column of row r
pub record IsBaseColumn (t : TableauState) (r y : ℕ) : Type 0 where
  pub below : y < t.columns
  pub member : t.base y ≡ true
  pub at_row : t.row y ≡ r

-- row r has no base column
abbrev pub IsBare : TableauState → ℕ → Type 0
IsBare t r = HasNoBase t.columns t.base t.row r

-- n is t after a pivot at row r and column v: v is the base column of r now
pub record IsPivot (modulus : ℕ) (t n : TableauState) (r v : ℕ) : Type 0 where
  pub rows_same : n.rows ≡ t.rows
  pub columns_same : n.columns ≡ t.columns
  pub q_same : n.q ≡ t.q
  pub pivoted : IsPivoted modulus t.rows t.columns t.p n.p r v
  pub taken : IsBaseTaken t.columns t.base t.row n.base n.row r v

-- n is t without the base column v
pub record IsDrop (t n : TableauState) (v : ℕ) : Type 0 where
  pub rows_same : n.rows ≡ t.rows
  pub columns_same : n.columns ≡ t.columns
  pub q_same : n.q ≡ t.q
  pub s_same : n.s ≡ t.s
  pub u_same : n.u ≡ t.u
  pub p_same : n.p ≡ t.p
  pub dropped : IsBaseDropped t.columns t.base t.row n.base n.row v

-- the tables have the entries of s, u and p
pub record AreTableauParts (t : TableauState) (s u p : Table) : Type 0 where
  pub s_height : height s ≡ t.rows
  pub s_width : s.width ≡ t.rows
  pub s_entries : (i j : ℕ) → i < t.rows → j < t.rows → entry s i j ≡ t.s i j
  pub u_height : height u ≡ t.rows
  pub u_width : u.width ≡ t.rows
  pub u_entries : (i j : ℕ) → i < t.rows → j < t.rows → entry u i j ≡ t.u i j
  pub p_height : height p ≡ t.rows
  pub p_width : p.width ≡ t.columns
  pub p_entries : (i j : ℕ) → i < t.rows → j < t.columns → entry p i j ≡ t.p i j

-- t is the tableau of q, with m rows and n columns, before any row operation; it has no base column
pub record IsOpened (modulus m n : ℕ) (q : ℕ → ℕ → ℕ) (t : TableauState) : Type 0 where
  pub rows_are : t.rows ≡ m
  pub columns_are : t.columns ≡ n
  pub q_is : Agree modulus m n t.q q
  pub p_is : t.p ≡ q
  pub s_is : (i j : ℕ) → i < m → j < m → t.s i j ≡ identity i j
  pub u_is : (i j : ℕ) → i < m → j < m → t.u i j ≡ identity i j
  pub no_base : (y : ℕ) → t.base y ≡ false
