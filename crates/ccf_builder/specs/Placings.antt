-- The part of each column and of each row, and the lists of a part.
use Rattle.std.specs.Prelude.{ℕ, ◌<◌, ◌≡◌, ◌≢◌, ◌↔◌, true, List, [], ◌∷◌, ◌++◌, length, slice_get, slice_index_or, Some}
use Rattle.std.specs.Global.{Vec}
use Rattle.cert_text.specs.Ranges.{AreRising}
use Rattle.residue_theory.specs.Sets.{has}
use Rattle.cert_text.specs.Readings.{pair_at}
use Rattle.cert_text.specs.declared.part.CcfPart.{CcfPart}
use Rattle.cert_text.specs.declared.part.CcfBlock.{CcfBlock}
use Rattle.ccf_builder.specs.Tabulations.{Tabulates}
use Rattle.ccf_builder.specs.declared.canonical.Block.{Block as Columns}
use Rattle.ccf_builder.specs.declared.canonical.Parts.{Parts}
use Rattle.ccf_builder.specs.declared.part_lists.PartLists.{PartLists}
use Rattle.minimiser_lattice.specs.Parts.{PlaceParts, part_in}
use Rattle.minimiser_lattice.specs.declared.lattice.Part.{Part}
use Rattle.minimiser_lattice.specs.declared.lattice.Part.TheVariants.{First, Block, Last}

-- the part of each column
abbrev pub PlacesColumns : PlaceParts → List Part → Type 0
PlacesColumns v columns = Tabulates (part_in v) v.places columns

-- the part of each of m rows: that of its column, and the last one where it has none
pub record PlacesRows (m : ℕ) (pairs : List (ℕ × ℕ)) (columns rows : List Part) : Type 0 where
  pub count : length rows ≡ m
  pub listed : (k : ℕ) → k < length pairs → slice_get rows (pair_at pairs k).0 ≡ slice_get columns (pair_at pairs k).1
  pub others : (i : ℕ) → i < m → ((k : ℕ) → k < length pairs → (pair_at pairs k).0 ≡ i → ⊥) →
      slice_get rows i ≡ Some Last

-- the list holds, rising, exactly the numbers below n of which P is true
pub record ListsBelow (P : ℕ → Type 0) (n : ℕ) (list : List ℕ) : Type 0 where
  pub rising : AreRising n list
  pub exact : (x : ℕ) → x < n → (has list x ≡ true) ↔ P x

-- the numbers that stand in this part
abbrev pub ListsPart : List Part → Part → List ℕ → Type 0
ListsPart parts part = ListsBelow (λ x. slice_get parts x ≡ Some part) (length parts)

-- the numbers below n that stand in each part, where there are so many blocks
pub record ListsParts (parts : List Part) (n blocks : ℕ) (lists : PartLists) : Type 0 where
  pub first : ListsBelow (λ x. slice_get parts x ≡ Some First) n lists.first.items
  pub count : length lists.blocks.items ≡ blocks
  pub blocks_are : (k : ℕ) (d : Vec ℕ) → k < blocks →
      ListsBelow (λ x. slice_get parts x ≡ Some (Block k)) n (slice_index_or lists.blocks.items k d).items
  pub last : ListsBelow (λ x. slice_get parts x ≡ Some Last) n lists.last.items

-- no part has a number
pub record AreEmpty (blocks : ℕ) (lists : PartLists) : Type 0 where
  pub first : lists.first.items ≡ []
  pub count : length lists.blocks.items ≡ blocks
  pub blocks_are : (k : ℕ) (d : Vec ℕ) → k < blocks → (slice_index_or lists.blocks.items k d).items ≡ []
  pub last : lists.last.items ≡ []

-- list k, where there is one, has the number at its end, and the others are as before
pub record IsPushed (old new : List (Vec ℕ)) (k number : ℕ) : Type 0 where
  pub count : length new ≡ length old
  pub here : (d : Vec ℕ) → k < length old →
      (slice_index_or new k d).items ≡ (slice_index_or old k d).items ++ number ∷ []
  pub others : (j : ℕ) (d : Vec ℕ) → j ≢ k → slice_index_or new j d ≡ slice_index_or old j d

-- the list of the part has the number at its end, and the others are as before
abbrev pub IsListedAtPart : PartLists → PartLists → Part → ℕ → Type 0
IsListedAtPart old new First number = (new.first.items ≡ old.first.items ++ number ∷ []) × (new.blocks ≡ old.blocks)
    × (new.last ≡ old.last)
IsListedAtPart old new (Block k) number = (new.first ≡ old.first) × IsPushed old.blocks.items new.blocks.items k number
    × (new.last ≡ old.last)
IsListedAtPart old new Last number = (new.first ≡ old.first) × (new.blocks ≡ old.blocks)
    × (new.last.items ≡ old.last.items ++ number ∷ [])

-- the parts of the columns, the Q rows and the T rows
pub record Placing : Type 0 where
  pub columns : List Part
  pub q_rows : List Part
  pub t_rows : List Part

-- the columns and rows that stand in this part
pub record HasPart (placing : Placing) (part : Part) (c : CcfPart) : Type 0 where
  pub columns : ListsPart placing.columns part c.columns
  pub q_rows : ListsPart placing.q_rows part c.q_rows
  pub t_rows : ListsPart placing.t_rows part c.t_rows

-- the blocks that block k covers
abbrev pub ListsLower : PlaceParts → ℕ → List ℕ → Type 0
ListsLower v k = ListsBelow (λ j. v.covers k j ≡ true) k

-- block k with list k of its columns, and the blocks that it covers
pub record IsColumnBlock (v : PlaceParts) (column_lists : List (Vec ℕ)) (k : ℕ) (block : Columns) : Type 0 where
  pub columns : (d : Vec ℕ) → block.columns ≡ (slice_index_or column_lists k d).items
  pub lower : ListsLower v k block.lower

-- the columns in each part, and the blocks that each block covers
pub record ListsColumns (v : PlaceParts) (columns : List Part) (parts : Parts) : Type 0 where
  pub first : ListsPart columns First parts.first
  pub count : length parts.blocks.items ≡ v.blocks
  pub columns_are : (k : ℕ) (d : Columns) → k < length parts.blocks.items →
      ListsPart columns (Block k) (slice_index_or parts.blocks.items k d).columns
  pub lower : (k : ℕ) (d : Columns) → k < length parts.blocks.items →
      ListsLower v k (slice_index_or parts.blocks.items k d).lower
  pub last : ListsPart columns Last parts.last

-- block k of the columns with list k of the Q rows and of the T rows
pub record IsBlockOf (blocks : List Columns) (q_lists t_lists : List (Vec ℕ)) (k : ℕ) (block : CcfBlock) : Type 0 where
  pub columns : (d : Columns) → block.part.columns ≡ (slice_index_or blocks k d).columns
  pub q_rows : (d : Vec ℕ) → block.part.q_rows ≡ (slice_index_or q_lists k d).items
  pub t_rows : (d : Vec ℕ) → block.part.t_rows ≡ (slice_index_or t_lists k d).items
  pub lower : (d : Columns) → block.lower ≡ (slice_index_or blocks k d).lower

-- block k: its columns and rows, and the blocks that it covers
pub record HasBlock (placing : Placing) (v : PlaceParts) (k : ℕ) (block : CcfBlock) : Type 0 where
  pub part : HasPart placing (Block k) block.part
  pub lower : ListsLower v k block.lower

-- the parts: each column stands in its own, each row of q_rows and t_rows in that of its column, or in the last one
pub record PrintsParts (v : PlaceParts) (q_rows t_rows : ℕ) (base mates : List (ℕ × ℕ))
    (first : CcfPart) (blocks : List CcfBlock) (last : CcfPart) : Type 0 where
  pub placing : Placing
  pub columns : PlacesColumns v placing.columns
  pub q_are : PlacesRows q_rows base placing.columns placing.q_rows
  pub t_are : PlacesRows t_rows mates placing.columns placing.t_rows
  pub first_is : HasPart placing First first
  pub count : length blocks ≡ v.blocks
  pub blocks_are : (k : ℕ) (d : CcfBlock) → k < length blocks → HasBlock placing v k (slice_index_or blocks k d)
  pub last_is : HasPart placing Last last
