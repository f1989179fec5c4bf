-- What a certificate prints of a model, and what a question on a desk is told of it.
use Rattle.std.specs.Prelude.{ℕ, ◌≡◌, map}
use Rattle.residue_theory.specs.Residues.{IsPrime}
use Rattle.mixed_matrices.specs.LayeredMatrices.{LayeredMatrix}
use Rattle.mixed_matrices.specs.Layerings.{IsLayeredMatrixOf, Origins}
use Rattle.mixed_model.specs.Models.{MixedModel, mixed_matrix_of}
use Rattle.cert_text.specs.Contents.{Contents}
use Rattle.cert_text.specs.Ranges.{IsCcf}
use Rattle.cert_text.specs.Right.{IsRightCcf}
use Rattle.cert_text.specs.declared.part.CcfBlock.{CcfBlock}
use Rattle.ccf_builder.specs.declared.canonical.Block.{Block}
use Rattle.ccf_builder.specs.declared.canonical.Parts.{Parts}
use Rattle.edit_desk.specs.Desks.{IsToldOfModel}

-- a printed block without its rows
abbrev pub told_block : CcfBlock → Block
told_block block = record { columns = block.part.columns; lower = block.lower }

-- the printed rank is this one, the tails have these columns, and the blocks, in order, these columns and lower lists
pub record PrintsWhatIsTold (c : Contents) (rank : ℕ) (parts : Parts) : Type 0 where
  pub rank_is : c.rank ≡ rank
  pub first : c.first.columns ≡ parts.first
  pub blocks : map told_block c.blocks ≡ parts.blocks.items
  pub last : c.last.columns ≡ parts.last

-- a right form of a model, whatever layered matrix of the model it is right for, prints what is told of the model
abbrev pub WhatIsToldIsPrinted : Type 0
WhatIsToldIsPrinted =
    (p : ℕ) (model : MixedModel) (layered : LayeredMatrix) (origins : Origins) (c : Contents) (rank : ℕ)
    (parts : Parts) → IsPrime p → IsLayeredMatrixOf (mixed_matrix_of model) layered origins → IsCcf p c →
    IsRightCcf p (mixed_matrix_of model) layered origins c → IsToldOfModel p model rank parts →
    PrintsWhatIsTold c rank parts
