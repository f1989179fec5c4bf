-- What makes a canonical form that a certificate prints right for a model M and its layered matrix L (Murota, chapters
-- 2 and 4).
use Rattle.std.specs.Prelude.{ℕ, ◌+◌, ◌<◌, ◌≡◌, ◌↔◌, Bool, true, length}
use Rattle.closed_sets.specs.Walks.{ReachesOn}
use Rattle.linear_algebra.specs.Products.{product, Agree, IsInverse}
use Rattle.mixed_matrices.specs.CanonicalParts.{AreCanonical, IsBlockBelow, IsIdealOf, IsLowerBlock}
use Rattle.mixed_matrices.specs.Forms.{IsForm, IsOrdered}
use Rattle.mixed_matrices.specs.LayeredMatrices.{LayeredMatrix}
use Rattle.mixed_matrices.specs.Layerings.{Origins}
use Rattle.mixed_matrices.specs.Models.{MixedMatrix}
use Rattle.mixed_matrices.specs.Pairs.{IsPair}
use Rattle.mixed_matrices.specs.SetFunctions.{IsMinimiser}
use Rattle.mixed_matrices.specs.StructuralRanks.{IsStructuralRank}
use Rattle.cert_text.specs.Contents.{Contents}
use Rattle.cert_text.specs.Readings.{matrix_of, pattern_of, pair_at, has_column, row_with, column_lists, q_row_lists}
use Rattle.cert_text.specs.Readings.{t_row_lists, parts_of, lower_of, StandsOnce, ColumnsDiffer, IsUnitColumn}

-- the printed numbers are those of M and L
pub record HasShape (M : MixedMatrix) (L : LayeredMatrix) (c : Contents) : Type 0 where
  pub equations : c.shape.equations ≡ M.rows
  pub unknowns : c.shape.unknowns ≡ M.columns
  pub q_rows : c.shape.q_rows ≡ L.q_rows
  pub t_rows : c.shape.t_rows ≡ L.t_rows
  pub columns : c.shape.columns ≡ L.columns

-- P is S * Q, and the T lines are the T rows
pub record HasProduct (p : ℕ) (L : LayeredMatrix) (c : Contents) : Type 0 where
  pub q : Agree p L.q_rows L.columns (matrix_of c.p) (product L.q_rows (matrix_of c.s) L.q)
  pub t : (i j : ℕ) → i < L.t_rows → j < L.columns → pattern_of c.t i j ≡ L.t i j

-- S has the inverse U, P is S * Q, and the T lines are the T rows
pub record HasTransform (p : ℕ) (L : LayeredMatrix) (c : Contents) : Type 0 where
  pub inverse : IsInverse p L.q_rows (matrix_of c.s) (matrix_of c.u)
  pub product_is : HasProduct p L c

-- each base column is a unit column of P at its row
abbrev pub HasUnitColumns : ℕ → LayeredMatrix → Contents → Type 0
HasUnitColumns p L c = (k : ℕ) → k < length c.base → IsUnitColumn p L.q_rows (matrix_of c.p) (pair_at c.base k).0
    (pair_at c.base k).1

-- the base columns are unit columns of P and with the matched ones a pair, whose size is the printed rank and one for
-- each split equation; and the printed rank is the structural rank of M
pub record HasPairAndRank (p : ℕ) (M : MixedMatrix) (L : LayeredMatrix) (O : Origins) (c : Contents) : Type 0 where
  pub units : HasUnitColumns p L c
  pub differ : ColumnsDiffer c.base c.mates
  pub pair : IsPair p L (has_column c.base) (has_column c.mates) (row_with c.mates)
  pub size : length c.base + length c.mates ≡ c.rank + O.split
  pub rank : IsStructuralRank p M c.rank

-- S and the printed parts are a form of L, with the order of blocks that the lower lists give by chains
pub record HasForm (p : ℕ) (L : LayeredMatrix) (c : Contents) : Type 0 where
  pub columns : StandsOnce L.columns (column_lists c)
  pub q_rows : StandsOnce L.q_rows (q_row_lists c)
  pub t_rows : StandsOnce L.t_rows (t_row_lists c)
  pub form : IsForm p L (matrix_of c.s) (parts_of c)
  pub ordered : IsOrdered p L (matrix_of c.s) (parts_of c) (λ k l. ReachesOn (lower_of c) (length c.blocks) l k)

-- below tells the order of blocks that the lower lists give by chains
abbrev pub IsOrderOf : Contents → (ℕ → ℕ → Bool) → Type 0
IsOrderOf c below = (k l : ℕ) → k < length c.blocks → l < length c.blocks → (below k l ≡ true) ↔
    ReachesOn (lower_of c) (length c.blocks) l k

-- a column set is a minimiser exactly where it is an ideal of the printed blocks
pub record HasIdeals (p : ℕ) (L : LayeredMatrix) (c : Contents) : Type 0 where
  pub below : ℕ → ℕ → Bool
  pub order : IsOrderOf c below
  pub ideals : (X : ℕ → Bool) → IsMinimiser p L X ↔ ((B : ℕ → Bool) × IsIdealOf L (parts_of c) below B X)

-- the parts, their listing and their lower lists are the canonical ones
pub record HasCanonicalListing (p : ℕ) (L : LayeredMatrix) (c : Contents) : Type 0 where
  pub parts : AreCanonical p L (parts_of c)
  pub order : (k l : ℕ) → k < length c.blocks → l < length c.blocks → ReachesOn (lower_of c) (length c.blocks) l k ↔
      IsBlockBelow p L (parts_of c) k l
  pub lists : (k l : ℕ) → k < length c.blocks → l < length c.blocks → (lower_of c l k ≡ true) ↔
      IsLowerBlock p L (parts_of c) k l

pub record IsRightCcf (p : ℕ) (M : MixedMatrix) (L : LayeredMatrix) (O : Origins) (c : Contents) : Type 0 where
  pub shape : HasShape M L c
  pub transform : HasTransform p L c
  pub pair_and_rank : HasPairAndRank p M L O c
  pub block_triangular_form : HasForm p L c
  pub ideals : HasIdeals p L c
  pub canonical_listing : HasCanonicalListing p L c
