-- Small models with more equations than they need, or fewer, beside their layered matrices, tableaus and parts.
use Rattle.std.specs.Prelude.{ℕ, ◌+◌, cond, eqb, false, true}
use Rattle.residue_theory.specs.Sets.{everything, nothing, only}
use Rattle.mixed_matrices.specs.Forms.{Parts}
use Rattle.mixed_matrices.specs.LayeredMatrices.{LayeredMatrix}
use Rattle.mixed_matrices.specs.Layerings.{Origins}
use Rattle.mixed_matrices.specs.Models.{MixedMatrix}
use Rattle.mixed_matrices.specs.Tableaus.{Tableau}

-- ---- no row is split, and each row of the layered matrix is that of the equation with its number
abbrev pub plain_origins : Origins
plain_origins = record { of_q = λ k. k; of_t = λ k. k; of_z = λ k. 0; split = 0 }

-- ---- two equations with a symbol at the one unknown; two T rows with a symbol each are its layered matrix
abbrev pub tall_symbol_model : MixedMatrix
tall_symbol_model = record { rows = 2; columns = 1; constant = λ i j. 0; symbol = λ i j. true }

-- ---- two Q rows 1, of two equal equations
abbrev pub tall_constants : LayeredMatrix
tall_constants = record { q_rows = 2; t_rows = 0; columns = 1; q = λ i j. 1; t = λ i j. false }

-- S has the rows 1 0 and -1 1, its inverse the rows 1 0 and 1 1
abbrev pub tall_transform : ℕ → ℕ → ℕ
tall_transform i j = cond (eqb i j) 1 (cond (eqb j 0) 65520 0)

abbrev pub tall_inverse : ℕ → ℕ → ℕ
tall_inverse i j = cond (eqb i j) 1 (cond (eqb j 0) 1 0)

-- P is 1 above 0, and the column is in the base
abbrev pub tall_constant_tableau : Tableau
tall_constant_tableau =
    record { P = λ i j. cond (eqb i 0) 1 0; base = everything; row = λ b. 0; matched = nothing; mate = λ j. 0 }

-- block 0 is the column with the first row of P; the other row is the last tail
abbrev pub tall_constant_parts : Parts
tall_constant_parts = record { blocks = 1; column = λ j. 1; q_row = λ i. i + 1; t_row = λ i. 2 }

-- ---- one equation with a symbol at each of two unknowns, and its T row
abbrev pub wide_model : MixedMatrix
wide_model = record { rows = 1; columns = 2; constant = λ i j. 0; symbol = λ i j. true }

abbrev pub wide_symbols : LayeredMatrix
wide_symbols = record { q_rows = 0; t_rows = 1; columns = 2; q = λ i j. 0; t = λ i j. true }

-- column 0 is matched, and column 1 free: all is the first tail
abbrev pub wide_tableau : Tableau
wide_tableau = record { P = λ i j. 0; base = nothing; row = λ b. 0; matched = only 0; mate = λ j. 0 }

abbrev pub wide_parts : Parts
wide_parts = record { blocks = 0; column = λ j. 0; q_row = λ i. 1; t_row = λ i. 0 }
