-- When two certificates agree, and the law that right ones of one model do.
use Rattle.std.specs.Prelude.{ℕ, ◌<◌, ◌≡◌, List, length, map}
use Rattle.residue_theory.specs.Residues.{IsPrime}
use Rattle.mixed_matrices.specs.LayeredMatrices.{LayeredMatrix}
use Rattle.mixed_matrices.specs.Layerings.{IsLayeredMatrixOf, Origins}
use Rattle.mixed_matrices.specs.Models.{MixedMatrix}
use Rattle.cert_text.specs.Contents.{Contents}
use Rattle.cert_text.specs.Ranges.{IsCcf}
use Rattle.cert_text.specs.Readings.{column_lists, q_row_lists, t_row_lists}
use Rattle.cert_text.specs.Right.{IsRightCcf}

-- the lower list of each block
abbrev pub lower_lists : Contents → List (List ℕ)
lower_lists c = map (λ block. block.lower) c.blocks

-- c and d have the same rank and T rows, and the same parts in one order. S, U, P, the pair, and which Q rows stand in
-- a part may differ.
pub record AgreeInParts (c d : Contents) : Type 0 where
  pub shape : c.shape ≡ d.shape
  pub rank : c.rank ≡ d.rank
  pub t : c.t ≡ d.t
  -- each part has the same columns, each block the same lower list
  pub blocks : length c.blocks ≡ length d.blocks
  pub columns : column_lists c ≡ column_lists d
  pub lower : lower_lists c ≡ lower_lists d
  -- each part has the same T rows, and as many Q rows
  pub t_rows : t_row_lists c ≡ t_row_lists d
  pub q_rows : map (λ rows. length rows) (q_row_lists c) ≡ map (λ rows. length rows) (q_row_lists d)

-- right forms of one model agree; p is a prime above 2
abbrev pub RightFormsAgree : Type 0
RightFormsAgree =
    (p : ℕ) → IsPrime p → 2 < p → (M : MixedMatrix) (L K : LayeredMatrix) (O N : Origins) →
    IsLayeredMatrixOf M L O → IsLayeredMatrixOf M K N → (c d : Contents) → IsCcf p c → IsCcf p d →
    IsRightCcf p M L O c → IsRightCcf p M K N d → AgreeInParts c d
