-- Laws of the same searches over the columns.
use Rattle.std.specs.Prelude.{ℕ, ◌<◌, ◌≡◌, ◌⊎◌, Bool, true, false}
use Rattle.residue_theory.specs.Sets.{only, with_one}
use Rattle.closed_sets.specs.Closed.{IsReachedSet, NoEndReached}
use Rattle.search_laws.specs.Searches.{IsShortest}
use Rattle.mixed_matrices.specs.Arcs.{is_free}
use Rattle.mixed_matrices.specs.LayeredMatrices.{LayeredMatrix}
use Rattle.mixed_matrices.specs.Layerings.{IsLayering, Origins}
use Rattle.mixed_matrices.specs.Models.{MixedMatrix}
use Rattle.mixed_matrices.specs.Tableaus.{HasTableau, Tableau}
use Rattle.row_choice_laws.specs.ColumnSearches.{leads_back, rows_along, rows_from}
use Rattle.row_choice_laws.specs.Growth.{AreColumnsAlong}
use Rattle.row_choice_laws.specs.RowSearches.{IsJoining, AreRowsReachedInVain, bare_of, origin_of_row, has_row_entry}
use Rattle.row_choice_laws.specs.RowSearches.{is_bare_row}
use Rattle.row_choice_laws.specs.RowSearches.{is_open, places, row_leads}

-- a shortest walk of columns is one of rows, with these columns
abbrev pub WalksOfColumnsAreWalksBack : Type 0
WalksOfColumnsAreWalksBack =
    (p : ℕ) (L : LayeredMatrix) (F : Tableau) → HasTableau p L F → (s : ℕ) → s < places L → is_bare_row L F s ≡ true →
    (at : ℕ → ℕ) (k : ℕ) → IsShortest (leads_back p L F) L.columns (has_row_entry p L F s) (is_free F) at k →
    IsShortest (row_leads p L F) (places L) (only s) (is_open p L F) (rows_along L F s at) k
    × AreColumnsAlong p L F (rows_along L F s at) at k

-- and where no free column is reached, the rows of the reached columns, with the first row, are what is reached in vain
abbrev pub ColumnsInVainTellTheRows : Type 0
ColumnsInVainTellTheRows =
    (p : ℕ) (L : LayeredMatrix) (F : Tableau) → HasTableau p L F → (s : ℕ) → s < places L → (X : ℕ → Bool) →
    IsReachedSet (leads_back p L F) L.columns (has_row_entry p L F s) X →
    NoEndReached (leads_back p L F) L.columns (has_row_entry p L F s) (is_free F) →
    IsReachedSet (row_leads p L F) (places L) (only s) (rows_from L F s X)
    × NoEndReached (row_leads p L F) (places L) (only s) (is_open p L F)

-- the one bare row of an equation that joins and those that are kept is its Q row, or its T row where it has no Q row;
-- so this is the row from which to search
abbrev pub OneRowIsBare : Type 0
OneRowIsBare =
    (p : ℕ) (M : MixedMatrix) (A D : ℕ → Bool) (L : LayeredMatrix) (O : Origins) → IsLayering M A D L O →
    (S : ℕ → ℕ → ℕ) (F : Tableau) (K : ℕ → Bool) (f : ℕ) → IsJoining p M A L O S F K f →
    (s : ℕ) → s < places L → origin_of_row L O s ≡ f → (s < L.q_rows) ⊎ (A f ≡ false) →
    ((r : ℕ) → r < places L → bare_of L O F (with_one K f) r ≡ only s r)
    × ((W : ℕ → Bool) → IsReachedSet (row_leads p L F) (places L) (only s) W →
    NoEndReached (row_leads p L F) (places L) (only s) (is_open p L F) → AreRowsReachedInVain p L O F (with_one K f) W)
