-- The same searches over the columns: from the columns at which a bare row has an entry, against the arcs, to a free
-- column.
use Rattle.std.specs.Prelude.{ℕ, zero, suc, ◌+◌, Bool, cond, eqb, ◌&&◌, ◌||◌}
use Rattle.residue_theory.specs.Sets.{some_below}
use Rattle.mixed_matrices.specs.Arcs.{leads_to}
use Rattle.mixed_matrices.specs.LayeredMatrices.{LayeredMatrix}
use Rattle.mixed_matrices.specs.Tableaus.{Tableau}
use Rattle.row_choice_laws.specs.RowSearches.{is_column_of}

-- column x leads back to column y: y leads to x
abbrev pub leads_back : ℕ → LayeredMatrix → Tableau → ℕ → ℕ → Bool
leads_back p L F x y = leads_to p L F y x

-- the row that a column of the pair has, as a place
abbrev pub row_place : LayeredMatrix → Tableau → ℕ → ℕ
row_place L F y = cond (F.base y) (F.row y) (L.q_rows + F.mate y)

-- the rows along a walk of columns: the one from which the search began, and then that of each column
abbrev pub rows_along : LayeredMatrix → Tableau → ℕ → (ℕ → ℕ) → ℕ → ℕ
rows_along L F s at zero = s
rows_along L F s at (suc i) = row_place L F (at i)

-- row s, and the rows of the columns X
unfoldable pub rows_from : LayeredMatrix → Tableau → ℕ → (ℕ → Bool) → ℕ → Bool
rows_from L F s X r = eqb r s || some_below L.columns (λ y. X y && is_column_of L F r y)
