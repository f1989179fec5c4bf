-- How a column moves to another row, and the chain of moves along a walk (Murota, chapter 2, independent matching).
use Rattle.std.specs.Prelude.{ℕ, suc, ◌<◌, ◌≤◌, ◌≡◌, ◌≢◌, ◌%◌, ◌⊎◌, Bool, true, false, ◌||◌, cond, ltb}
use Rattle.linear_algebra.specs.Bases.{IsBase, IsBaseTaken, HasNoBase}
use Rattle.linear_algebra.specs.Kernels.{SameKernel}
use Rattle.linear_algebra.specs.RowOperations.{IsPivoted}
use Rattle.mixed_matrices.specs.LayeredMatrices.{LayeredMatrix}
use Rattle.mixed_matrices.specs.Pairs.{IsMatching}
use Rattle.mixed_matrices.specs.Tableaus.{Tableau}

-- column v is not matched, and the matches of all others stay
pub record IsUnlinked (n : ℕ) (J : ℕ → Bool) (mate : ℕ → ℕ) (K : ℕ → Bool) (now : ℕ → ℕ) (v : ℕ) : Type 0 where
  pub gone : K v ≡ false
  pub tests : (y : ℕ) → y < n → y ≢ v → K y ≡ J y
  pub mates : (y : ℕ) → y < n → y ≢ v → now y ≡ mate y

-- column v is matched with row t, and the matches of all others stay
pub record IsLinked (n : ℕ) (J : ℕ → Bool) (mate : ℕ → ℕ) (K : ℕ → Bool) (now : ℕ → ℕ) (t v : ℕ) : Type 0 where
  pub member : K v ≡ true
  pub partner : now v ≡ t
  pub tests : (y : ℕ) → y < n → y ≢ v → K y ≡ J y
  pub mates : (y : ℕ) → y < n → y ≢ v → now y ≡ mate y

-- column v takes Q row r, by a pivot, and leaves its T row
pub record TakesRow (p : ℕ) (L : LayeredMatrix) (F G : Tableau) (r v : ℕ) : Type 0 where
  pub pivoted : IsPivoted p L.q_rows L.columns F.P G.P r v
  pub taken : IsBaseTaken L.columns F.base F.row G.base G.row r v
  pub unlinked : IsUnlinked L.columns F.matched F.mate G.matched G.mate v

-- column v takes T row t and leaves the one that it had
pub record TakesMate (L : LayeredMatrix) (F G : Tableau) (t v : ℕ) : Type 0 where
  pub entries : G.P ≡ F.P
  pub same_base : G.base ≡ F.base
  pub same_rows : G.row ≡ F.row
  pub linked : IsLinked L.columns F.matched F.mate G.matched G.mate t v

-- the columns at 0 .. at last of a walk, and the row that each is to take: a Q row where in_q holds, else a T row
pub record Route : Type 0 where
  pub at : ℕ → ℕ
  pub last : ℕ
  pub in_q : ℕ → Bool
  pub row : ℕ → ℕ

-- the route of a walk: each column takes the row that the next one has, and the last one takes the given row
abbrev pub route : Tableau → (ℕ → ℕ) → ℕ → Bool → ℕ → Route
route F at k in_q row = record {
  at = at;
  last = k;
  in_q = λ j. cond (ltb j k) (F.base (at (suc j))) in_q;
  row = λ j. cond (ltb j k) (cond (F.base (at (suc j))) (F.row (at (suc j))) (F.mate (at (suc j)))) row;
}

-- the row is a Q row where in_q holds, else a T row; column x may take it, and no column has it
pub record IsFreeRow (p : ℕ) (L : LayeredMatrix) (F : Tableau) (x : ℕ) (in_q : Bool) (row : ℕ) : Type 0 where
  pub of_q : in_q ≡ true → (row < L.q_rows) × (F.P row x % p ≢ 0) × HasNoBase L.columns F.base F.row row
  pub of_t : in_q ≡ false → (row < L.t_rows) × (L.t row x ≡ true) × HasNoBase L.columns F.matched F.mate row

-- the route's first column is free, each other one has the row that the one before it is to take, nobody has the
-- last row, and no earlier column has an entry in a Q row that is to be taken
pub record IsRoute (p : ℕ) (L : LayeredMatrix) (F : Tableau) (R : Route) : Type 0 where
  pub below : (j : ℕ) → j ≤ R.last → R.at j < L.columns
  pub differ : (i j : ℕ) → i ≤ R.last → j ≤ R.last → R.at i ≡ R.at j → i ≡ j
  pub first : (F.base (R.at 0) ≡ false) × (F.matched (R.at 0) ≡ false)
  pub row_left : (j : ℕ) → j < R.last → R.in_q j ≡ true → (F.base (R.at (suc j)) ≡ true)
      × (F.row (R.at (suc j)) ≡ R.row j)
  pub mate_left : (j : ℕ) → j < R.last → R.in_q j ≡ false → (F.matched (R.at (suc j)) ≡ true)
      × (F.mate (R.at (suc j)) ≡ R.row j)
  pub row_end : R.in_q R.last ≡ true → HasNoBase L.columns F.base F.row (R.row R.last)
  pub mate_end : R.in_q R.last ≡ false → HasNoBase L.columns F.matched F.mate (R.row R.last)
  pub row_below : (j : ℕ) → j ≤ R.last → R.in_q j ≡ true → R.row j < L.q_rows
  pub entry : (j : ℕ) → j ≤ R.last → R.in_q j ≡ true → F.P (R.row j) (R.at j) % p ≢ 0
  pub mate_below : (j : ℕ) → j ≤ R.last → R.in_q j ≡ false → R.row j < L.t_rows
  pub symbol : (j : ℕ) → j ≤ R.last → R.in_q j ≡ false → L.t (R.row j) (R.at j) ≡ true
  pub far : (i j : ℕ) → i < j → j ≤ R.last → R.in_q j ≡ true → F.P (R.row j) (R.at i) % p ≡ 0

-- the first i columns of the route have still to move, and the others have moved; F is from before all moves, and G
-- from now
pub record IsStage (p : ℕ) (L : LayeredMatrix) (F : Tableau) (R : Route) (i : ℕ) (G : Tableau) : Type 0 where
  pub le : i ≤ suc R.last
  pub kernel : SameKernel p L.q_rows L.columns L.q G.P
  pub unit_columns : IsBase p G.P L.q_rows L.columns G.base G.row
  pub matching : IsMatching L G.matched G.mate
  -- the columns that have still to move are as they were
  pub entries : (j r : ℕ) → j < i → r < L.q_rows → G.P r (R.at j) % p ≡ F.P r (R.at j) % p
  pub same_base : (j : ℕ) → j < i → G.base (R.at j) ≡ F.base (R.at j)
  pub same_match : (j : ℕ) → j < i → G.matched (R.at j) ≡ F.matched (R.at j)
  pub same_row : (j : ℕ) → j < i → F.base (R.at j) ≡ true → G.row (R.at j) ≡ F.row (R.at j)
  pub same_mate : (j : ℕ) → j < i → F.matched (R.at j) ≡ true → G.mate (R.at j) ≡ F.mate (R.at j)
  -- the row that is taken next: a Q row with no column or with one that is matched too, or a T row with no column
  pub row_place : (j : ℕ) → suc j ≡ i → R.in_q j ≡ true → (y : ℕ) → y < L.columns → G.base y ≡ true →
      G.row y ≡ R.row j → G.matched y ≡ true
  pub mate_place : (j : ℕ) → suc j ≡ i → R.in_q j ≡ false → HasNoBase L.columns G.matched G.mate (R.row j)
  -- a column that is both in the base and matched has the Q row that is taken next
  pub both_have : (y : ℕ) → y < L.columns → G.base y ≡ true → G.matched y ≡ true → (j : ℕ) × (suc j ≡ i)
      × (R.in_q j ≡ true) × (G.row y ≡ R.row j)
  -- the columns of the pair are the same, but for the first one at the end
  pub used : (y : ℕ) → y < L.columns → (0 < i) ⊎ (y ≢ R.at 0) → (G.base y || G.matched y) ≡ (F.base y || F.matched y)
  pub used_first : i ≡ 0 → (G.base (R.at 0) || G.matched (R.at 0)) ≡ true
