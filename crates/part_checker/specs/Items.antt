-- The lower lists of blocks as one list of items.
use Rattle.std.specs.Prelude.{ℕ, ◌<◌, ◌≡◌, ◌↔◌, Bool, true, List, [], map, slice_index_or}
use Rattle.residue_theory.specs.Sets.{has}
use Rattle.cert_text.specs.declared.part.CcfBlock.{CcfBlock}
use Rattle.part_orders.specs.Orders.{AreLowerItems}
use Rattle.part_rules.specs.Listed.{arc_in}

-- block k is in the list of block l
abbrev pub lower_in : List CcfBlock → ℕ → ℕ → Bool
lower_in blocks l k = has (slice_index_or (map (λ block. block.lower) blocks) l []) k

-- the items of the list of a block
abbrev pub items_of : ℕ → List ℕ → List (ℕ × ℕ)
items_of block list = map (λ lower. (block, lower)) list

-- the items are those of the lists of the first n blocks
pub record AreItems (blocks : List CcfBlock) (n : ℕ) (items : List (ℕ × ℕ)) : Type 0 where
  pub are : AreLowerItems n items
  pub tells : (l k : ℕ) → (arc_in items l k ≡ true) ↔ ((l < n) × (lower_in blocks l k ≡ true))
