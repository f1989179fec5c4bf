-- Numbers in blocks: a layered matrix with numbers at its symbols, in the rows and columns of a form, beside the right
-- sides of the model's equations.
use Rattle.std.specs.Prelude.{ℕ, ◌+◌, ◌-◌, ◌*◌, ◌%◌, ◌<◌, ◌≡◌, Bool, true, false, cond, ltb}
use Rattle.residue_theory.specs.Sets.{everything}
use Rattle.residue_theory.specs.Sums.{sum_below}
use Rattle.linear_algebra.specs.Columns.{IsRank}
use Rattle.linear_algebra.specs.Parts.{diagonal, in_part}
use Rattle.mixed_matrices.specs.Forms.{IsForm, Parts, part_columns, part_rows, transformed}
use Rattle.mixed_matrices.specs.LayeredMatrices.{LayeredMatrix, layered_value}
use Rattle.mixed_matrices.specs.Layerings.{Origins}
use Rattle.block_laws.specs.Systems.{IsSystemSolutionOn, stacked}

-- a form whose tails are empty: it has blocks alone, and each has as many rows as columns
pub record IsSquareForm (p : ℕ) (L : LayeredMatrix) (S : ℕ → ℕ → ℕ) (G : Parts) : Type 0 where
  pub form : IsForm p L S G
  pub first_columns : part_columns L G 0 ≡ 0
  pub first_rows : part_rows L G 0 ≡ 0
  pub last_columns : part_columns L G (G.blocks + 1) ≡ 0
  pub last_rows : part_rows L G (G.blocks + 1) ≡ 0

-- ---- the matrix
-- P = S * Q above T, with the numbers w at the symbols
abbrev pub block_matrix : (ℕ → ℕ → ℕ) → LayeredMatrix → (ℕ → ℕ → ℕ) → ℕ → ℕ → ℕ
block_matrix S L w = layered_value (transformed S L) w

-- the part of each row of P above T
abbrev pub row_part : LayeredMatrix → Parts → ℕ → ℕ
row_part L G i = cond (ltb i L.q_rows) (G.q_row i) (G.t_row (i - L.q_rows))

-- the rows of block k
abbrev pub rows_of_block : LayeredMatrix → Parts → ℕ → ℕ → Bool
rows_of_block L G k = in_part (row_part L G) (k + 1)

-- r is the rank of the diagonal part of block k with these numbers
abbrev pub IsBlockRank : ℕ → (ℕ → ℕ → ℕ) → LayeredMatrix → Parts → (ℕ → ℕ → ℕ) → ℕ → ℕ → Type 0
IsBlockRank p S L G w k r = IsRank p (diagonal (row_part L G) G.column (block_matrix S L w) (k + 1))
    (L.q_rows + L.t_rows) L.columns everything r

-- block k with these numbers has the rank of its size
abbrev pub IsRegularBlock : ℕ → (ℕ → ℕ → ℕ) → LayeredMatrix → Parts → (ℕ → ℕ → ℕ) → ℕ → Type 0
IsRegularBlock p S L G w k = IsBlockRank p S L G w k (part_columns L G (k + 1))

-- ---- the right side, for b at the equations; A tells which of them have a Q row
-- at the Q row of an equation
abbrev pub q_right : Origins → (ℕ → ℕ) → ℕ → ℕ
q_right O b i = b (O.of_q i)

-- at the T row of an equation that has no Q row; a T row beside a Q row has 0
abbrev pub t_right : (ℕ → Bool) → Origins → (ℕ → ℕ) → ℕ → ℕ
t_right A O b i = cond (A (O.of_t i)) 0 (b (O.of_t i))

-- the right side of Q above T
abbrev pub layered_right : (ℕ → Bool) → LayeredMatrix → Origins → (ℕ → ℕ) → ℕ → ℕ
layered_right A L O b = stacked L.q_rows (q_right O b) (t_right A O b)

-- the right side of P above T: what S makes of that of Q
abbrev pub block_right : (ℕ → ℕ → ℕ) → (ℕ → Bool) → LayeredMatrix → Origins → (ℕ → ℕ) → ℕ → ℕ
block_right S A L O b = stacked L.q_rows (λ i. sum_below L.q_rows (λ t. S i t * q_right O b t)) (t_right A O b)

-- ---- solving block by block
-- every column at which a row of block k has a number that is not 0 is in X
abbrev pub HoldsEntries : ℕ → (ℕ → ℕ → ℕ) → LayeredMatrix → Parts → (ℕ → ℕ → ℕ) → ℕ → (ℕ → Bool) → Type 0
HoldsEntries p S L G w k X = (i j : ℕ) → i < L.q_rows + L.t_rows → j < L.columns → rows_of_block L G k i ≡ true →
    X j ≡ false → block_matrix S L w i j % p ≡ 0

-- the rows of block k are satisfied: the columns of X, times x, are the right side there
abbrev pub IsBlockSolved : ℕ → (ℕ → ℕ → ℕ) → (ℕ → Bool) → LayeredMatrix → Origins → Parts → (ℕ → ℕ → ℕ) → ℕ →
    (ℕ → Bool) → (ℕ → ℕ) → (ℕ → ℕ) → Type 0
IsBlockSolved p S A L O G w k X x b = IsSystemSolutionOn p (block_matrix S L w) (L.q_rows + L.t_rows) L.columns
    (rows_of_block L G k) X x (block_right S A L O b)
