-- Matrices and patterns by their printed rows.
use Rattle.std.specs.Prelude.{ℕ, ◌<◌, ◌≡◌, Bool, List}
use Rattle.cert_text.specs.Printing.{PrintsMatrix}
use Rattle.cert_text.specs.Ranges.{IsPattern}
use Rattle.cert_text.specs.Readings.{pattern_of}
use Rattle.row_transform.specs.Tableaus.{TableauState}

-- the rows of an m x n pattern
pub record PrintsPattern (m n : ℕ) (pattern : ℕ → ℕ → Bool) (rows : List (List ℕ)) : Type 0 where
  pub is : IsPattern m n rows
  pub same : (i j : ℕ) → i < m → j < n → pattern_of rows i j ≡ pattern i j

-- the rows of S, of its inverse U, and of P
pub record PrintsTableau (modulus : ℕ) (S : TableauState) (s u p : List (List (ℕ × ℕ))) : Type 0 where
  pub s_is : PrintsMatrix modulus S.rows S.rows S.s s
  pub u_is : PrintsMatrix modulus S.rows S.rows S.u u
  pub p_is : PrintsMatrix modulus S.rows S.columns S.p p
