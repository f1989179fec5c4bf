-- The laws of the moves along a shortest walk.
use Rattle.std.specs.Prelude.{ℕ, suc, ◌+◌, ◌≤◌, ◌≡◌, ◌≢◌, ◌%◌, Bool, true, false}
use Rattle.residue_theory.specs.Sums.{size_on}
use Rattle.search_laws.specs.Searches.{IsShortest}
use Rattle.mixed_matrices.specs.Arcs.{is_free, is_end, leads_to}
use Rattle.mixed_matrices.specs.LayeredMatrices.{LayeredMatrix}
use Rattle.mixed_matrices.specs.Pairs.{pair_size}
use Rattle.mixed_matrices.specs.Tableaus.{Tableau, HasTableau}
use Rattle.mixed_augmentation_laws.specs.Moves.{Route, IsRoute, IsFreeRow, IsStage, TakesRow, TakesMate, route}

-- a column is an end exactly where it may take a row that no column has
abbrev pub EndsHaveAFreeRow : Type 0
EndsHaveAFreeRow =
    (p : ℕ) (L : LayeredMatrix) (F : Tableau) (x : ℕ) →
    (is_end p L F x ≡ true → (in_q : Bool) × (row : ℕ) × IsFreeRow p L F x in_q row)
    × ((in_q : Bool) (row : ℕ) → IsFreeRow p L F x in_q row → is_end p L F x ≡ true)

-- a shortest walk from a free column to an end, and a free row of its last column, make a route
abbrev pub ShortestWalksAreRoutes : Type 0
ShortestWalksAreRoutes =
    (p : ℕ) (L : LayeredMatrix) (F : Tableau) → HasTableau p L F →
    (at : ℕ → ℕ) (k : ℕ) → IsShortest (leads_to p L F) L.columns (is_free F) (is_end p L F) at k →
    (in_q : Bool) (row : ℕ) → IsFreeRow p L F (at k) in_q row → IsRoute p L F (route F at k in_q row)

-- before the first move
abbrev pub MovesBegin : Type 0
MovesBegin = (p : ℕ) (L : LayeredMatrix) (F : Tableau) (R : Route) → HasTableau p L F → IsRoute p L F R →
    IsStage p L F R (suc R.last) F

-- the last column that has still to move may take its row, and then the stage is the next one
abbrev pub MovesGoOn : Type 0
MovesGoOn =
    (p : ℕ) (L : LayeredMatrix) (F : Tableau) (R : Route) → HasTableau p L F → IsRoute p L F R →
    (i : ℕ) (G H : Tableau) → IsStage p L F R (suc i) G →
    (R.in_q i ≡ true → (G.P (R.row i) (R.at i) % p ≢ 0) × (G.base (R.at i) ≡ false)
    × (TakesRow p L G H (R.row i) (R.at i) → IsStage p L F R i H))
    × (R.in_q i ≡ false → TakesMate L G H (R.row i) (R.at i) → IsStage p L F R i H)

-- after the last move the tableau has a pair with one column more
abbrev pub MovesEndInALargerPair : Type 0
MovesEndInALargerPair =
    (p : ℕ) (L : LayeredMatrix) (F : Tableau) (R : Route) → HasTableau p L F → IsRoute p L F R →
    (G : Tableau) → IsStage p L F R 0 G → HasTableau p L G
    × (pair_size L G.base G.matched ≡ pair_size L F.base F.matched + 1)

-- there are at most as many pivots as base columns, and one
abbrev pub RoutesHaveFewPivots : Type 0
RoutesHaveFewPivots = (p : ℕ) (L : LayeredMatrix) (F : Tableau) (R : Route) → IsRoute p L F R →
    size_on R.in_q (suc R.last) ≤ size_on F.base L.columns + 1
