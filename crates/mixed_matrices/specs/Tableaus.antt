-- A pair in a tableau: P, which is Q after row operations, a base of unit columns of P, and columns that are matched in
-- T.
use Rattle.std.specs.Prelude.{ℕ, Bool}
use Rattle.residue_theory.specs.Sets.{both, IsApart}
use Rattle.linear_algebra.specs.Products.{product, IsInverse, Agree}
use Rattle.linear_algebra.specs.Kernels.{SameKernel}
use Rattle.linear_algebra.specs.Bases.{IsBase}
use Rattle.linear_algebra.specs.Parts.{part}
use Rattle.mixed_matrices.specs.LayeredMatrices.{LayeredMatrix}
use Rattle.mixed_matrices.specs.Pairs.{IsMatching}

-- `row` gives the Q row of each base column, `mate` the T row of each matched one
pub record Tableau : Type 0 where
  pub P : ℕ → ℕ → ℕ
  pub base : ℕ → Bool
  pub row : ℕ → ℕ
  pub matched : ℕ → Bool
  pub mate : ℕ → ℕ

-- P = S * Q and S * U = 1, the base columns are unit columns of P, and with the matched ones they are a pair
pub record IsTableau (p : ℕ) (L : LayeredMatrix) (S U : ℕ → ℕ → ℕ) (F : Tableau) : Type 0 where
  pub inverse : IsInverse p L.q_rows S U
  pub product : Agree p L.q_rows L.columns F.P (product L.q_rows S L.q)
  pub base : IsBase p F.P L.q_rows L.columns F.base F.row
  pub matching : IsMatching L F.matched F.mate
  pub apart : IsApart L.columns F.base F.matched

-- the same with no word of S: P has the kernel of Q
pub record HasTableau (p : ℕ) (L : LayeredMatrix) (F : Tableau) : Type 0 where
  pub kernel : SameKernel p L.q_rows L.columns L.q F.P
  pub base : IsBase p F.P L.q_rows L.columns F.base F.row
  pub matching : IsMatching L F.matched F.mate
  pub apart : IsApart L.columns F.base F.matched

-- the part of the Q rows R and the columns X
abbrev pub tableau_part : (ℕ → Bool) → (ℕ → Bool) → Tableau → Tableau
tableau_part R X F = record {
  P = part R X F.P;
  base = both F.base X;
  row = F.row;
  matched = both F.matched X;
  mate = F.mate;
}
