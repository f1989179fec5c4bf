-- Small models and layered matrices, with tableaus and parts, at which the definitions are shown to hold and to fail.
-- Columns, rows and blocks are numbered from 0.
use Rattle.std.specs.Prelude.{ℕ, ◌+◌, ◌-◌, Bool, cond, true, false, eqb, ltb, ◌&&◌}
use Rattle.residue_theory.specs.Sets.{everything, nothing, only}
use Rattle.mixed_matrices.specs.Models.{MixedMatrix}
use Rattle.mixed_matrices.specs.LayeredMatrices.{LayeredMatrix}
use Rattle.mixed_matrices.specs.Layerings.{Origins}
use Rattle.mixed_matrices.specs.Tableaus.{Tableau}
use Rattle.mixed_matrices.specs.Forms.{Parts}

-- ---- one entry with the constant 1 and a symbol
abbrev pub split_model : MixedMatrix
split_model = record { rows = 1; columns = 1; constant = λ i j. 1; symbol = λ i j. true }

-- its layered matrix: the Q row 1 1 above a T row with two symbols; column 1 is auxiliary
abbrev pub split_matrix : LayeredMatrix
split_matrix = record { q_rows = 1; t_rows = 1; columns = 2; q = λ i j. 1; t = λ i j. true }

abbrev pub split_origins : Origins
split_origins = record { of_q = λ k. 0; of_t = λ k. 0; of_z = λ k. 0; split = 1 }

-- column 0 is in the base, and column 1 matched
abbrev pub split_tableau : Tableau
split_tableau = record { P = λ i j. 1; base = only 0; row = λ b. 0; matched = only 1; mate = λ j. 0 }

-- nothing is in the base or matched
abbrev pub empty_tableau : Tableau
empty_tableau = record { P = λ i j. 1; base = nothing; row = λ b. 0; matched = nothing; mate = λ j. 0 }

-- ---- models of constants 1 alone: two equations of one unknown, and two equations of two unknowns
abbrev pub tall_model : MixedMatrix
tall_model = record { rows = 2; columns = 1; constant = λ i j. 1; symbol = λ i j. false }

abbrev pub cancelling_model : MixedMatrix
cancelling_model = record { rows = 2; columns = 2; constant = λ i j. 1; symbol = λ i j. false }

-- ---- two T rows: symbols in both columns, and a symbol in column 0
abbrev pub symbol_triangle : LayeredMatrix
symbol_triangle = record { q_rows = 0; t_rows = 2; columns = 2; q = λ i j. 0; t = λ i j. ltb (i + j) 2 }

-- column 0 is matched with row 1, and column 1 with row 0; so column 0 leads to column 1
abbrev pub triangle_tableau : Tableau
triangle_tableau = record { P = λ i j. 0; base = nothing; row = λ b. 0; matched = everything; mate = λ j. 1 - j }

-- block 0 is column 1 with row 0, block 1 is column 0 with row 1
abbrev pub triangle_parts : Parts
triangle_parts = record { blocks = 2; column = λ j. 2 - j; q_row = λ i. 3; t_row = λ i. i + 1 }

-- the blocks the other way round, and all in one block
abbrev pub turned_parts : Parts
turned_parts = record { blocks = 2; column = λ j. j + 1; q_row = λ i. 3; t_row = λ i. 2 - i }

abbrev pub whole_parts : Parts
whole_parts = record { blocks = 1; column = λ j. 1; q_row = λ i. 2; t_row = λ i. 1 }

-- block 0 is below block 1, and in its lower list
abbrev pub triangle_below : ℕ → ℕ → Bool
triangle_below k l = eqb k 0 && eqb l 1

abbrev pub triangle_lower : ℕ → ℕ → Bool
triangle_lower l k = triangle_below k l

-- ---- two T rows with a symbol in the one column: all is the last tail
abbrev pub tall_symbols : LayeredMatrix
tall_symbols = record { q_rows = 0; t_rows = 2; columns = 1; q = λ i j. 0; t = λ i j. true }

abbrev pub tall_tableau : Tableau
tall_tableau = record { P = λ i j. 0; base = nothing; row = λ b. 0; matched = everything; mate = λ j. 0 }

abbrev pub tall_parts : Parts
tall_parts = record { blocks = 0; column = λ j. 1; q_row = λ i. 1; t_row = λ i. 1 }

-- ---- two T rows with a symbol in a column each: nothing leads to anything
abbrev pub loose_symbols : LayeredMatrix
loose_symbols = record { q_rows = 0; t_rows = 2; columns = 2; q = λ i j. 0; t = λ i j. eqb i j }

abbrev pub loose_tableau : Tableau
loose_tableau = record { P = λ i j. 0; base = nothing; row = λ b. 0; matched = everything; mate = λ j. j }

abbrev pub loose_parts : Parts
loose_parts = record { blocks = 2; column = λ j. j + 1; q_row = λ i. 3; t_row = λ i. i + 1 }

-- ---- the equation x + y over x and a symbol at y
abbrev pub stacked_model : MixedMatrix
stacked_model = record {
  rows = 2;
  columns = 2;
  constant = λ i j. cond (eqb (i + j) 2) 0 1;
  symbol = λ i j. eqb (i + j) 2;
}

-- Q has the rows 1 1 0 and 1 0 1, T the row of two symbols at columns 1 and 2
abbrev pub stacked_matrix : LayeredMatrix
stacked_matrix = record {
  q_rows = 2;
  t_rows = 1;
  columns = 3;
  q = λ i j. cond (eqb j 0) 1 (cond (eqb (i + 1) j) 1 0);
  t = λ i j. ltb 0 j;
}

abbrev pub stacked_origins : Origins
stacked_origins = record { of_q = λ k. k; of_t = λ k. 1; of_z = λ k. 1; split = 1 }

-- S has the rows 0 1 and 1 -1, its inverse the rows 1 1 and 1 0
abbrev pub stacked_transform : ℕ → ℕ → ℕ
stacked_transform i j = cond (eqb (i + j) 0) 0 (cond (eqb (i + j) 1) 1 65520)

abbrev pub stacked_inverse : ℕ → ℕ → ℕ
stacked_inverse i j = cond (ltb (i + j) 2) 1 0

-- P has the rows 1 0 1 and 0 1 -1; columns 0 and 1 are its base, and column 2 is matched
abbrev pub stacked_tableau : Tableau
stacked_tableau = record {
  P = λ i j. cond (eqb j 2) (cond (eqb i 0) 1 65520) (cond (eqb i j) 1 0);
  base = λ b. ltb b 2;
  row = λ b. b;
  matched = only 2;
  mate = λ j. 0;
}

-- block 0 is column 0 with the first row of P, block 1 the rest; block 0 is below block 1
abbrev pub stacked_parts : Parts
stacked_parts = record { blocks = 2; column = λ j. cond (eqb j 0) 1 2; q_row = λ i. i + 1; t_row = λ i. 2 }
