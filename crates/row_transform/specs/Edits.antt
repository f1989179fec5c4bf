-- What an edit of the matrix makes of a tableau: a row or a column of Q comes or goes. Which row of P comes or goes
-- with a row of Q is not said: the base columns are, and that the result is a tableau again is told of each tableau.
use Rattle.std.specs.Prelude.{ℕ, ◌+◌, ◌%◌, ◌<◌, ◌≡◌, ◌≢◌, true, false, Option, Some, IfSome}
use Rattle.linear_algebra.specs.Parts.{skip, without_row, without_column}
use Rattle.linear_algebra.specs.Products.{Agree}
use Rattle.tableau_edit_laws.specs.Edits.{IsRowIn, IsZeroColumnIn}
use Rattle.row_transform.specs.Tableaus.{TableauState}

-- for how many rows and columns there is room
pub record Room : Type 0 where
  pub rows : ℕ
  pub columns : ℕ

-- n is t with the row x put in as row e of Q; the base stays
pub record IsWithRow (modulus : ℕ) (t n : TableauState) (e : ℕ) (x : ℕ → ℕ) : Type 0 where
  pub rows_are : n.rows ≡ t.rows + 1
  pub columns_same : n.columns ≡ t.columns
  pub q_is : IsRowIn modulus t.rows t.columns t.q n.q e x
  pub base_same : (y : ℕ) → y < t.columns → n.base y ≡ t.base y

-- n is t without row e of Q, and without the base column that is told, if one is
pub record IsWithoutRow (modulus : ℕ) (t n : TableauState) (e : ℕ) (told : Option ℕ) : Type 0 where
  pub rows_are : n.rows + 1 ≡ t.rows
  pub columns_same : n.columns ≡ t.columns
  pub q_is : Agree modulus n.rows t.columns n.q (without_row e t.q)
  pub kept : (y : ℕ) → y < t.columns → told ≢ Some y → n.base y ≡ t.base y
  pub below : IfSome told (λ b. b < t.columns)
  pub was_base : IfSome told (λ b. t.base b ≡ true)
  pub is_none : IfSome told (λ b. n.base b ≡ false)

-- n is t with a column of zeros put in as column v of Q, which is no base column; the base stays
pub record IsWithColumn (modulus : ℕ) (t n : TableauState) (v : ℕ) : Type 0 where
  pub rows_same : n.rows ≡ t.rows
  pub columns_are : n.columns ≡ t.columns + 1
  pub q_is : IsZeroColumnIn modulus t.rows t.columns t.q n.q v
  pub no_base : n.base v ≡ false
  pub base_same : (y : ℕ) → y < t.columns → n.base (skip v y) ≡ t.base y

-- n is t without column v of Q
pub record IsWithoutColumn (modulus : ℕ) (t n : TableauState) (v : ℕ) : Type 0 where
  pub rows_same : n.rows ≡ t.rows
  pub columns_are : n.columns + 1 ≡ t.columns
  pub q_is : Agree modulus t.rows n.columns n.q (without_column v t.q)
  pub base_is : (y : ℕ) → y < n.columns → n.base y ≡ t.base (skip v y)

-- s becomes n: each of the m columns in which row r of s is zero stays
abbrev pub KeepsZeroColumns : ℕ → ℕ → (ℕ → ℕ → ℕ) → (ℕ → ℕ → ℕ) → ℕ → Type 0
KeepsZeroColumns p m s n r = (k : ℕ) → k < m → s r k % p ≡ 0 → (i : ℕ) → i < m → n i k % p ≡ s i k % p
