-- The layered matrix of a mixed matrix. A row with constants and symbols is split: its constants become a Q row, its
-- symbols a T row, and an auxiliary column has an entry in both (Murota, chapter 4, splits every row).
use Rattle.std.specs.Prelude.{ℕ, ◌+◌, ◌<◌, ◌≡◌, Bool, true, false, cond, eqb, not, ◌||◌}
use Rattle.residue_theory.specs.Sets.{both, some_below}
use Rattle.residue_theory.specs.Sums.{size_on}
use Rattle.mixed_matrices.specs.Models.{MixedMatrix}
use Rattle.mixed_matrices.specs.LayeredMatrices.{LayeredMatrix}

-- `at 0`, `at 1` to `at (m - 1)` are the members of A below n, rising
pub record AreMembers (A : ℕ → Bool) (n : ℕ) (at : ℕ → ℕ) (m : ℕ) : Type 0 where
  pub count : size_on A n ≡ m
  pub below : (k : ℕ) → k < m → at k < n
  pub member : (k : ℕ) → k < m → A (at k) ≡ true
  pub place : (k : ℕ) → k < m → size_on A (at k) ≡ k

-- row i has a constant that is not 0
abbrev pub has_constant : MixedMatrix → ℕ → Bool
has_constant M i = some_below M.columns (λ j. not (eqb (M.constant i j) 0))

-- row i has a symbol
abbrev pub has_symbol : MixedMatrix → ℕ → Bool
has_symbol M i = some_below M.columns (M.symbol i)

-- a row with constants, and one with nothing, gives a Q row
abbrev pub gives_q : MixedMatrix → ℕ → Bool
gives_q M i = has_constant M i || not (has_symbol M i)

-- the rows of M from which the Q rows, the T rows and the auxiliary columns come, and the number of split rows
pub record Origins : Type 0 where
  pub of_q : ℕ → ℕ
  pub of_t : ℕ → ℕ
  pub of_z : ℕ → ℕ
  pub split : ℕ

-- L is M with a Q row for each row of A and a T row for each row of D; a row of both is split, even where it need not
-- be
pub record IsLayering (M : MixedMatrix) (A D : ℕ → Bool) (L : LayeredMatrix) (O : Origins) : Type 0 where
  pub constants : (i j : ℕ) → i < M.rows → j < M.columns → A i ≡ false → M.constant i j ≡ 0
  pub symbols : (i j : ℕ) → i < M.rows → j < M.columns → D i ≡ false → M.symbol i j ≡ false
  pub q_rows : AreMembers A M.rows O.of_q L.q_rows
  pub t_rows : AreMembers D M.rows O.of_t L.t_rows
  pub auxiliary : AreMembers (both A D) M.rows O.of_z O.split
  pub columns : L.columns ≡ M.columns + O.split
  pub q : (i j : ℕ) → i < L.q_rows → j < M.columns → L.q i j ≡ M.constant (O.of_q i) j
  pub q_auxiliary : (i k : ℕ) → i < L.q_rows → k < O.split →
      L.q i (M.columns + k) ≡ cond (eqb (O.of_q i) (O.of_z k)) 1 0
  pub t : (i j : ℕ) → i < L.t_rows → j < M.columns → L.t i j ≡ M.symbol (O.of_t i) j
  pub t_auxiliary : (i k : ℕ) → i < L.t_rows → k < O.split → L.t i (M.columns + k) ≡ eqb (O.of_t i) (O.of_z k)

-- L is the layered matrix of M: only rows with constants and symbols are split
abbrev pub IsLayeredMatrixOf : MixedMatrix → LayeredMatrix → Origins → Type 0
IsLayeredMatrixOf M L O = IsLayering M (gives_q M) (has_symbol M) L O
