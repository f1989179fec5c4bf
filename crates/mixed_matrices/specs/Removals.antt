-- A model with an equation or an unknown less, and which of them may go: surplus equations, undetermined unknowns.
use Rattle.std.specs.Prelude.{ℕ, ◌-◌, Bool, ◌&&◌}
use Rattle.linear_algebra.specs.Parts.{part, skip, without_row, without_column}
use Rattle.mixed_matrices.specs.Models.{MixedMatrix}
use Rattle.mixed_matrices.specs.StructuralRanks.{IsStructuralRank}

-- M without its equation i
abbrev pub without_equation : ℕ → MixedMatrix → MixedMatrix
without_equation i M = record {
  rows = M.rows - 1;
  columns = M.columns;
  constant = without_row i M.constant;
  symbol = λ k j. M.symbol (skip i k) j;
}

-- M without its unknown j
abbrev pub without_unknown : ℕ → MixedMatrix → MixedMatrix
without_unknown j M = record {
  rows = M.rows;
  columns = M.columns - 1;
  constant = without_column j M.constant;
  symbol = λ i k. M.symbol i (skip j k);
}

-- the part of the rows R and the columns X: no other place keeps its entry
abbrev pub mixed_part : (ℕ → Bool) → (ℕ → Bool) → MixedMatrix → MixedMatrix
mixed_part R X M = record {
  rows = M.rows;
  columns = M.columns;
  constant = part R X M.constant;
  symbol = λ i j. R i && X j && M.symbol i j;
}

-- equation i is surplus: R of the model without it is R(M)
abbrev pub IsSurplus : ℕ → MixedMatrix → ℕ → Type 0
IsSurplus p M i = (r : ℕ) × IsStructuralRank p M r × IsStructuralRank p (without_equation i M) r

-- unknown j is undetermined: R of the model without it is R(M)
abbrev pub IsUndetermined : ℕ → MixedMatrix → ℕ → Type 0
IsUndetermined p M j = (r : ℕ) × IsStructuralRank p M r × IsStructuralRank p (without_unknown j M) r
