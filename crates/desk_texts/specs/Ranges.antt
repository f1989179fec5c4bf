-- The columns and the blocks that parts list.
use Rattle.std.specs.Prelude.{ℕ, ◌<◌}
use Rattle.std.specs.List.{All}
use Rattle.limits.specs.Limits.{column_limit}
use Rattle.ccf_builder.specs.declared.canonical.Block.{Block}
use Rattle.ccf_builder.specs.declared.canonical.Parts.{Parts}

-- columns below n, and lower blocks with a number that a part can have
pub record IsBlockIn (n : ℕ) (block : Block) : Type 0 where
  pub columns : All (λ x. x < n) block.columns
  pub lower : All (λ k. k < column_limit) block.lower

-- the same of all parts
pub record ArePartsIn (n : ℕ) (parts : Parts) : Type 0 where
  pub first : All (λ x. x < n) parts.first
  pub blocks : All (IsBlockIn n) parts.blocks.items
  pub last : All (λ x. x < n) parts.last
