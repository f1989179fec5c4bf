-- The canonical parts of a layered matrix as lists (Murota, chapters 2 and 4).
use Rattle.std.specs.Prelude.{ℕ, ◌<◌, ◌≡◌, ◌↔◌, ◌∷◌, ◌++◌, true, List, [], length, map, slice_index_or}
use Rattle.residue_theory.specs.Sets.{has}
use Rattle.cert_text.specs.Ranges.{AreRising}
use Rattle.cert_text.specs.Readings.{StandsOnce, place_of}
use Rattle.mixed_matrices.specs.CanonicalParts.{AreCanonical, IsLowerBlock}
use Rattle.mixed_matrices.specs.Forms.{Parts as Forms}
use Rattle.mixed_matrices.specs.LayeredMatrices.{LayeredMatrix}
use Rattle.ccf_builder.specs.declared.canonical.Parts.{Parts}

-- the columns of the first tail, of each block and of the last tail
abbrev pub listed_columns : Parts → List (List ℕ)
listed_columns v = v.first ∷ (map (λ block. block.columns) v.blocks.items ++ v.last ∷ [])

-- the lower list of block k
abbrev pub lower_list : Parts → ℕ → List ℕ
lower_list v k = slice_index_or (map (λ block. block.lower) v.blocks.items) k []

-- the part of each column; of rows nothing is listed
abbrev pub listed_parts : Parts → Forms
listed_parts v = record {
  blocks = length v.blocks.items;
  column = place_of (listed_columns v);
  q_row = λ i. 0;
  t_row = λ i. 0;
}

-- the lists tell the canonical parts of L: each column stands once, the numbers of each list rise, and the lower lists
-- hold what is below a block with no third block between
pub record AreCanonicalLists (p : ℕ) (L : LayeredMatrix) (v : Parts) : Type 0 where
  pub once : StandsOnce L.columns (listed_columns v)
  pub rising : (k : ℕ) → AreRising L.columns (slice_index_or (listed_columns v) k [])
  pub canonical : AreCanonical p L (listed_parts v)
  pub lower_rising : (k : ℕ) → AreRising k (lower_list v k)
  pub lower : (k l : ℕ) → k < length v.blocks.items → l < length v.blocks.items →
      (has (lower_list v l) k ≡ true) ↔ IsLowerBlock p L (listed_parts v) k l
