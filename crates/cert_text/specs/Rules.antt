-- The rules by which a canonical form that a certificate prints is tried, numbered as the checker names them. The first
-- is about the input text alone.
use Rattle.std.specs.Prelude.{ℕ, ◌+◌, ◌<◌, ◌≡◌, true, length}
use Rattle.linear_algebra.specs.Products.{IsInverse}
use Rattle.closed_sets.specs.Rules.{PlacesHaveLowerLists, PlacesHaveReasons, PlacesLeadDown}
use Rattle.mixed_matrices.specs.Arcs.{is_end, is_free, leads_to}
use Rattle.mixed_matrices.specs.CheckerRules.{HasRows, block_of, in_first, in_last}
use Rattle.mixed_matrices.specs.LayeredMatrices.{LayeredMatrix}
use Rattle.mixed_matrices.specs.Models.{MixedMatrix}
use Rattle.cert_text.specs.Contents.{Contents}
use Rattle.cert_text.specs.Readings.{matrix_of, pair_at, column_lists, q_row_lists, t_row_lists, parts_of, lower_of, tableau_of, StandsOnce, ColumnsDiffer}
use Rattle.cert_text.specs.Right.{HasShape, HasProduct, HasUnitColumns}

-- each matched T row has a symbol at its column, and all columns of base and match differ
pub record HasMatching (L : LayeredMatrix) (c : Contents) : Type 0 where
  pub symbols : (k : ℕ) → k < length c.mates → L.t (pair_at c.mates k).0 (pair_at c.mates k).1 ≡ true
  pub differ : ColumnsDiffer c.base c.mates

-- each row of a base or matched column stands in the part of its column, each other row in the last tail, and nowhere
-- else
pub record HasPlacedRows (L : LayeredMatrix) (c : Contents) : Type 0 where
  pub q_rows : StandsOnce L.q_rows (q_row_lists c)
  pub t_rows : StandsOnce L.t_rows (t_row_lists c)
  pub rows : HasRows L (tableau_of c) (parts_of c)

-- free columns stand first and ends last; a column of the first tail leads only to the first tail, and a column of a
-- block only to it, to its own block, and to blocks below it by the chains of the lower lists
abbrev pub LeadsDown : ℕ → LayeredMatrix → Contents → Type 0
LeadsDown p L c = PlacesLeadDown (leads_to p L (tableau_of c)) L.columns (is_free (tableau_of c))
    (is_end p L (tableau_of c)) (in_first (parts_of c)) (in_last (parts_of c)) (block_of (parts_of c)) (length c.blocks)
    (lower_of c)

-- each column of the first tail is free or reached from a free one, each of the last is an end or reaches one, and any
-- two columns of a block reach each other
abbrev pub HasReasons : ℕ → LayeredMatrix → Contents → Type 0
HasReasons p L c = PlacesHaveReasons (leads_to p L (tableau_of c)) L.columns (is_free (tableau_of c))
    (is_end p L (tableau_of c)) (in_first (parts_of c)) (in_last (parts_of c)) (block_of (parts_of c))

-- each lower list holds exactly the blocks right below; and at each place stands, of the blocks all of whose lower ones
-- have stood before, the one with the least column
abbrev pub HasLowerLists : ℕ → LayeredMatrix → Contents → Type 0
HasLowerLists p L c = PlacesHaveLowerLists (leads_to p L (tableau_of c)) L.columns (is_free (tableau_of c))
    (is_end p L (tableau_of c)) (in_first (parts_of c)) (in_last (parts_of c)) (block_of (parts_of c)) (length c.blocks)
    (lower_of c)

pub record KeepsRules (p : ℕ) (M : MixedMatrix) (L : LayeredMatrix) (c : Contents) : Type 0 where
  -- rule 2
  pub shape : HasShape M L c
  -- rule 3
  pub inverse : IsInverse p L.q_rows (matrix_of c.s) (matrix_of c.u)
  -- rule 4
  pub product_is : HasProduct p L c
  -- rule 5
  pub units : HasUnitColumns p L c
  -- rule 6
  pub matching : HasMatching L c
  -- rule 7
  pub counted : c.rank + L.columns ≡ M.columns + (length c.base + length c.mates)
  -- rule 8
  pub columns : StandsOnce L.columns (column_lists c)
  -- rule 9
  pub rows : HasPlacedRows L c
  -- rule 10
  pub arcs : LeadsDown p L c
  -- rule 11
  pub reasons : HasReasons p L c
  -- rule 12
  pub listing : HasLowerLists p L c
