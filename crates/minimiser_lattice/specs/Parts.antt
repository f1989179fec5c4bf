-- What callers see of a lattice.
use Rattle.std.specs.Prelude.{ℕ, ◌<◌, ◌≡◌, Bool, true, cond}
use Rattle.closed_sets.specs.Blocks.{AreParts, IsBelow}
use Rattle.closed_sets.specs.Orders.{IsCover}
use Rattle.minimiser_lattice.specs.declared.lattice.Part.{Part}

-- how many places there are; the first part, the last part, and the block of each other place; how many blocks there
-- are; `below k l`: block k is below block l, `covers l k`: with none between
pub record PlaceParts : Type 0 where
  pub places : ℕ
  pub first : ℕ → Bool
  pub last : ℕ → Bool
  pub block : ℕ → ℕ
  pub blocks : ℕ
  pub below : ℕ → ℕ → Bool
  pub covers : ℕ → ℕ → Bool

-- where a place stands
abbrev pub part_in : PlaceParts → ℕ → Part
part_in v x = cond (v.first x) Part.First (cond (v.last x) Part.Last (Part.Block (v.block x)))

-- these are the parts of the arcs, with their order and its covers
pub record IsLattice (arc : ℕ → ℕ → Bool) (n : ℕ) (starts ends : ℕ → Bool) (v : PlaceParts) : Type 0 where
  pub parts : AreParts arc n starts ends v.first v.last v.block v.blocks
  pub order : IsBelow arc n starts ends v.block v.blocks v.below
  pub covers : IsCover v.below v.blocks v.covers
  pub within : (k l : ℕ) → v.covers l k ≡ true → (k < v.blocks) × (l < v.blocks)
