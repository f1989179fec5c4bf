-- The rules that parts printed beside a tableau must keep, so that a reader of them need not search.
use Rattle.std.specs.Prelude.{ℕ, ◌+◌, ◌-◌, ◌<◌, ◌≤◌, ◌≡◌, Bool, true, false}
use Rattle.linear_algebra.specs.Parts.{in_part}
use Rattle.closed_sets.specs.Blocks.{IsListing, IsBelow}
use Rattle.closed_sets.specs.Orders.{IsCover}
use Rattle.closed_sets.specs.Rules.{KeepsPlaceRules}
use Rattle.mixed_matrices.specs.LayeredMatrices.{LayeredMatrix}
use Rattle.mixed_matrices.specs.Tableaus.{Tableau}
use Rattle.mixed_matrices.specs.Arcs.{has_base, has_match, is_free, is_end, leads_to}
use Rattle.mixed_matrices.specs.Forms.{Parts}

-- the columns of the first and of the last tail, and the block of each other column
abbrev pub in_first : Parts → ℕ → Bool
in_first G = in_part G.column 0

abbrev pub in_last : Parts → ℕ → Bool
in_last G = in_part G.column (G.blocks + 1)

abbrev pub block_of : Parts → ℕ → ℕ
block_of G x = G.column x - 1

-- each row of a base or matched column stands in the part of its column, each other row in the last tail
pub record HasRows (L : LayeredMatrix) (F : Tableau) (G : Parts) : Type 0 where
  pub columns : (x : ℕ) → x < L.columns → G.column x ≤ G.blocks + 1
  pub base : (b : ℕ) → b < L.columns → F.base b ≡ true → G.q_row (F.row b) ≡ G.column b
  pub matched : (j : ℕ) → j < L.columns → F.matched j ≡ true → G.t_row (F.mate j) ≡ G.column j
  pub other_q : (i : ℕ) → i < L.q_rows → has_base L F i ≡ false → G.q_row i ≡ G.blocks + 1
  pub other_t : (i : ℕ) → i < L.t_rows → has_match L F i ≡ false → G.t_row i ≡ G.blocks + 1

-- the blocks are the listing of the columns that are neither reached from a free one nor reach an end
abbrev pub IsListingIn : ℕ → LayeredMatrix → Tableau → Parts → Type 0
IsListingIn p L F G = IsListing (leads_to p L F) L.columns (is_free F) (is_end p L F) (block_of G) G.blocks

-- below k l says that block k is below block l, and lower l k that k is in the list of l
pub record KeepsPartRules (p : ℕ) (L : LayeredMatrix) (F : Tableau) (G : Parts)
    (below lower : ℕ → ℕ → Bool) : Type 0 where
  pub rows : HasRows L F G
  pub rules : KeepsPlaceRules (leads_to p L F) L.columns (is_free F) (is_end p L F) (in_first G) (in_last G)
      (block_of G) G.blocks lower
  pub order : IsBelow (leads_to p L F) L.columns (is_free F) (is_end p L F) (block_of G) G.blocks below
  pub lists : IsCover below G.blocks lower
