-- The laws of sealed sets: what can reach no end is left for good.
use Rattle.std.specs.Prelude.{ℕ, ◌<◌, ◌≤◌, ◌≡◌, ◌↔◌, ◌%◌, Bool, true, false}
use Rattle.residue_theory.specs.Sets.{IsWithin}
use Rattle.mixed_matrices.specs.Arcs.{is_end, is_free, leads_to}
use Rattle.mixed_matrices.specs.LayeredMatrices.{LayeredMatrix}
use Rattle.mixed_matrices.specs.Tableaus.{Tableau, HasTableau}
use Rattle.mixed_augmentation_laws.specs.Moves.{TakesRow, TakesMate, Route, IsRoute, IsFreeRow, route}
use Rattle.search_laws.specs.Searches.{IsShortest}
use Rattle.mixed_augmentation_laws.specs.Sealed.{IsSealed, HoldsRows, IsRooted, HaveStayed, KeepsSealed}

-- a set is sealed exactly where each row that its columns may take is that of one of them
abbrev pub SealedSetsHoldTheirRows : Type 0
SealedSetsHoldTheirRows = (p : ℕ) (L : LayeredMatrix) (F : Tableau) → HasTableau p L F → (C : ℕ → Bool) →
    IsSealed p L F C ↔ HoldsRows p L F C

-- where a column outside takes a row, which no column of C has if it is a Q row, the columns of C stay
abbrev pub MovesLeaveSealedSets : Type 0
MovesLeaveSealedSets =
    (p : ℕ) (L : LayeredMatrix) (F G : Tableau) (C : ℕ → Bool) → HoldsRows p L F C → (v : ℕ) → C v ≡ false →
    ((r : ℕ) → r < L.q_rows → ((y : ℕ) → y < L.columns → F.base y ≡ true → F.row y ≡ r → C y ≡ false) →
    TakesRow p L F G r v → HaveStayed p L F G C × HoldsRows p L G C)
    × ((t : ℕ) → TakesMate L F G t v → HaveStayed p L F G C × HoldsRows p L G C)

-- no column of a route is in a sealed set, and none of its columns has an entry or a symbol in the rows that are
-- taken
abbrev pub RoutesMissSealedSets : Type 0
RoutesMissSealedSets =
    (p : ℕ) (L : LayeredMatrix) (F : Tableau) (R : Route) → HasTableau p L F → IsRoute p L F R → (C : ℕ → Bool) →
    IsSealed p L F C → (j : ℕ) → j ≤ R.last →
    (C (R.at j) ≡ false)
    × ((x : ℕ) → x < L.columns → C x ≡ true → (R.in_q j ≡ true → F.P (R.row j) x % p ≡ 0) × (R.in_q j ≡ false →
    L.t (R.row j) x ≡ false))

-- at each move of a route the columns of every sealed set stay as they were before the first move
abbrev pub RoutesLeaveSealedSets : Type 0
RoutesLeaveSealedSets =
    (p : ℕ) (L : LayeredMatrix) (F : Tableau) (R : Route) → HasTableau p L F → IsRoute p L F R →
    KeepsSealed p L F F
    × ((i : ℕ) (G H : Tableau) → i ≤ R.last → KeepsSealed p L F G →
    (R.in_q i ≡ true → TakesRow p L G H (R.row i) (R.at i) → KeepsSealed p L F H)
    × (R.in_q i ≡ false → TakesMate L G H (R.row i) (R.at i) → KeepsSealed p L F H))

-- where the columns of a sealed set have stayed, it is sealed again, its free columns are free, and what was reached
-- from these still is
abbrev pub SealedSetsStaySealed : Type 0
SealedSetsStaySealed =
    (p : ℕ) (L : LayeredMatrix) (F G : Tableau) → HasTableau p L F → HasTableau p L G → (C : ℕ → Bool) →
    HaveStayed p L F G C → IsSealed p L F C →
    IsSealed p L G C × ((x : ℕ) → x < L.columns → C x ≡ true → is_free G x ≡ is_free F x) × (IsRooted p L F C →
    IsRooted p L G C)

-- a walk that is shortest from some of the free columns alone is a route too
abbrev pub ShortestWalksFromSomeAreRoutes : Type 0
ShortestWalksFromSomeAreRoutes =
    (p : ℕ) (L : LayeredMatrix) (F : Tableau) → HasTableau p L F → (S : ℕ → Bool) → IsWithin L.columns S (is_free F) →
    (at : ℕ → ℕ) (k : ℕ) → IsShortest (leads_to p L F) L.columns S (is_end p L F) at k →
    (in_q : Bool) (row : ℕ) → IsFreeRow p L F (at k) in_q row → IsRoute p L F (route F at k in_q row)
