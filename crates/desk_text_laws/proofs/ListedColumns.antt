-- The columns that canonical parts list are there.
use Rattle.std.proofs.Common.{ℕ, ◌<◌, List, [], ◌∷◌, ◌++◌, map}
use Rattle.std.specs.List.{All}
use Rattle.std.proofs.lemmas.List.Elements.{All-cons, All-from_get_or, All-head, All-nil, All-tail}
use Rattle.ccf_builder.specs.Canonical.{AreCanonicalLists, listed_columns}
use Rattle.ccf_builder.specs.declared.canonical.Block.{Block}
use Rattle.ccf_builder.specs.declared.canonical.Parts.{Parts}
use Rattle.mixed_matrices.specs.LayeredMatrices.{LayeredMatrix}

abbrev pub AreBelow : ℕ → List ℕ → Type 0
AreBelow n columns = All (λ x. x < n) columns

abbrev pub AreBlocksBelow : ℕ → List Block → Type 0
AreBlocksBelow n blocks = All (λ (block : Block). AreBelow n block.columns) blocks

pub record HasColumnsBelow (n : ℕ) (parts : Parts) : Type 0 where
  pub first : AreBelow n parts.first
  pub blocks : AreBlocksBelow n parts.blocks.items
  pub last : AreBelow n parts.last

abbrev columns_in : List Block → List (List ℕ)
columns_in blocks = map (λ (block : Block). block.columns) blocks

blocks-below : (n : ℕ) (blocks : List Block) (last : List ℕ) → All (AreBelow n) (columns_in blocks ++ last ∷ []) → AreBlocksBelow n blocks
blocks-below n [] last all = All-nil (λ (block : Block). AreBelow n block.columns)
blocks-below n (block ∷ blocks) last all =
    All-cons (λ (block : Block). AreBelow n block.columns) block blocks
    (All-head (AreBelow n) block.columns (columns_in blocks ++ last ∷ []) all)
    (blocks-below n blocks last (All-tail (AreBelow n) block.columns (columns_in blocks ++ last ∷ []) all))

last-below : (n : ℕ) (blocks : List Block) (last : List ℕ) → All (AreBelow n) (columns_in blocks ++ last ∷ []) → AreBelow n last
last-below n [] last all = All-head (AreBelow n) last [] all
last-below n (block ∷ blocks) last all = last-below n blocks last (All-tail (AreBelow n) block.columns (columns_in blocks ++ last ∷ []) all)

module _ (p : ℕ) (L : LayeredMatrix) (v : Parts) (are : AreCanonicalLists p L v) where
  lists : All (AreBelow L.columns) (listed_columns v)
  lists = All-from_get_or (AreBelow L.columns) (listed_columns v) [] (λ k kl. (are.rising k).below)

  behind : All (AreBelow L.columns) (columns_in v.blocks.items ++ v.last ∷ [])
  behind = All-tail (AreBelow L.columns) v.first (columns_in v.blocks.items ++ v.last ∷ []) lists

  pub listed-below : HasColumnsBelow L.columns v
  listed-below = record {
    first = All-head (AreBelow L.columns) v.first (columns_in v.blocks.items ++ v.last ∷ []) lists;
    blocks = blocks-below L.columns v.blocks.items v.last behind;
    last = last-below L.columns v.blocks.items v.last behind;
  }
