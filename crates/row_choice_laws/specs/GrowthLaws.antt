-- Laws of growth along a walk backwards over the rows.
use Rattle.std.specs.Prelude.{ℕ, suc, ◌<◌, ◌≡◌, ◌≢◌, true, false}
use Rattle.residue_theory.specs.Sets.{only}
use Rattle.search_laws.specs.Searches.{IsShortest}
use Rattle.mixed_matrices.specs.LayeredMatrices.{LayeredMatrix}
use Rattle.mixed_matrices.specs.Tableaus.{HasTableau, Tableau}
use Rattle.mixed_augmentation_laws.specs.Moves.{IsRoute, IsStage, Route, TakesMate, TakesRow}
use Rattle.row_choice_laws.specs.Growth.{AreColumnsAlong, IsRowStage, route_back}
use Rattle.row_choice_laws.specs.RowSearches.{is_bare_row, is_open, places, row_leads}

-- a shortest walk backwards from a row without column to a row with an entry at a free column has such columns
abbrev pub WalksBackHaveColumns : Type 0
WalksBackHaveColumns =
    (p : ℕ) (L : LayeredMatrix) (F : Tableau) (s : ℕ) (at : ℕ → ℕ) (k : ℕ) →
    IsShortest (row_leads p L F) (places L) (only s) (is_open p L F) at k → (col : ℕ → ℕ) ×
    AreColumnsAlong p L F at col k

-- and, read from its other end, it is a route, whose last row is the one from which the search began
abbrev pub WalksBackAreRoutes : Type 0
WalksBackAreRoutes =
    (p : ℕ) (L : LayeredMatrix) (F : Tableau) → HasTableau p L F → (s : ℕ) → is_bare_row L F s ≡ true →
    (at col : ℕ → ℕ) (k : ℕ) → IsShortest (row_leads p L F) (places L) (only s) (is_open p L F) at k →
    AreColumnsAlong p L F at col k → IsRoute p L F (route_back L at col k)

-- along any route the rows that have columns keep some, and the last row gets one
abbrev pub RoutesKeepTheRows : Type 0
RoutesKeepTheRows =
    (p : ℕ) (L : LayeredMatrix) (F : Tableau) (R : Route) → HasTableau p L F → IsRoute p L F R →
    IsRowStage L F R (suc R.last) F
    × ((i : ℕ) (G H : Tableau) → IsStage p L F R (suc i) G → IsRowStage L F R (suc i) G →
    (R.in_q i ≡ true → TakesRow p L G H (R.row i) (R.at i) → IsRowStage L F R i H)
    × (R.in_q i ≡ false → TakesMate L G H (R.row i) (R.at i) → IsRowStage L F R i H))

-- so in the end the bare rows are those that were, but for the row from which the search began
abbrev pub WalksBackGiveTheFirstRowAColumn : Type 0
WalksBackGiveTheFirstRowAColumn =
    (p : ℕ) (L : LayeredMatrix) (F G : Tableau) → HasTableau p L F → (s : ℕ) → is_bare_row L F s ≡ true →
    (at col : ℕ → ℕ) (k : ℕ) → IsShortest (row_leads p L F) (places L) (only s) (is_open p L F) at k →
    AreColumnsAlong p L F at col k → IsRowStage L F (route_back L at col k) 0 G →
    (is_bare_row L G s ≡ false) × ((r : ℕ) → r < places L → r ≢ s → is_bare_row L G r ≡ is_bare_row L F r)
