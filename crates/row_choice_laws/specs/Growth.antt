-- How a pair grows along a walk backwards over the rows: from a row that no column has, to one with an entry at a free
-- column.
use Rattle.std.specs.Prelude.{ℕ, suc, ◌+◌, ◌-◌, ◌<◌, ◌≤◌, ◌≡◌, ◌≢◌, ◌⊎◌, true, false, cond, ltb}
use Rattle.mixed_matrices.specs.Arcs.{is_free}
use Rattle.mixed_matrices.specs.LayeredMatrices.{LayeredMatrix}
use Rattle.mixed_matrices.specs.Tableaus.{Tableau}
use Rattle.mixed_augmentation_laws.specs.Moves.{Route}
use Rattle.row_choice_laws.specs.RowSearches.{is_column_of, has_row_entry}

-- col i is a column at which row at i has an entry: that of the next row, and a free one at the last row
pub record AreColumnsAlong (p : ℕ) (L : LayeredMatrix) (F : Tableau) (at : ℕ → ℕ) (col : ℕ → ℕ) (k : ℕ) : Type 0 where
  pub below : (i : ℕ) → i ≤ k → col i < L.columns
  pub entry : (i : ℕ) → i ≤ k → has_row_entry p L F (at i) (col i) ≡ true
  pub column : (i : ℕ) → i < k → is_column_of L F (at (i + 1)) (col i) ≡ true
  pub free : is_free F (col k) ≡ true

-- the same walk from its other end: the free column comes first, and the last column takes the row at 0
abbrev pub route_back : LayeredMatrix → (ℕ → ℕ) → (ℕ → ℕ) → ℕ → Route
route_back L at col k = record {
  at = λ j. col (k - j);
  last = k;
  in_q = λ j. ltb (at (k - j)) L.q_rows;
  row = λ j. cond (ltb (at (k - j)) L.q_rows) (at (k - j)) (at (k - j) - L.q_rows);
}

-- a base column of G has Q row r, or a matched one T row t
abbrev pub HasQRow : LayeredMatrix → Tableau → ℕ → Type 0
HasQRow L G r = (y : ℕ) × (y < L.columns) × (G.base y ≡ true) × (G.row y ≡ r)

abbrev pub HasTRow : LayeredMatrix → Tableau → ℕ → Type 0
HasTRow L G t = (y : ℕ) × (y < L.columns) × (G.matched y ≡ true) × (G.mate y ≡ t)

-- while the first i columns of a route have still to move: each row that had a column in F has one in G, but for the
-- row that is taken next; the route's last row has one, too, once a column has moved; and no other row has one
pub record IsRowStage (L : LayeredMatrix) (F : Tableau) (R : Route) (i : ℕ) (G : Tableau) : Type 0 where
  pub kept_q : (b : ℕ) → b < L.columns → F.base b ≡ true → ((j : ℕ) → suc j ≡ i → R.in_q j ≡ true → R.row j ≢ F.row b) →
      HasQRow L G (F.row b)
  pub kept_t : (b : ℕ) → b < L.columns → F.matched b ≡ true →
      ((j : ℕ) → suc j ≡ i → R.in_q j ≡ false → R.row j ≢ F.mate b) → HasTRow L G (F.mate b)
  pub gained_q : i ≤ R.last → R.in_q R.last ≡ true → HasQRow L G (R.row R.last)
  pub gained_t : i ≤ R.last → R.in_q R.last ≡ false → HasTRow L G (R.row R.last)
  pub only_q : (y : ℕ) → y < L.columns → G.base y ≡ true →
      HasQRow L F (G.row y) ⊎ ((R.in_q R.last ≡ true) × (G.row y ≡ R.row R.last))
  pub only_t : (y : ℕ) → y < L.columns → G.matched y ≡ true →
      HasTRow L F (G.mate y) ⊎ ((R.in_q R.last ≡ false) × (G.mate y ≡ R.row R.last))
