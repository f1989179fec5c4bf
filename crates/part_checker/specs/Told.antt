-- What the rules of the parts of a form are tried on.
use Rattle.std.specs.Prelude.{ℕ, ◌+◌, ◌<◌, ◌≡◌, List, length, slice_index, vec_len}
use Rattle.bit_table.specs.Bits.{bit_in}
use Rattle.part_orders.specs.Orders.{AreLowerItems}
use Rattle.cert_text.specs.Contents.{Contents}
use Rattle.cert_text.specs.Readings.{StandsOnce, column_lists, lower_of, pattern_of, place_of}
use Rattle.part_arcs.specs.FormArcs.{AreArcsOf}
use Rattle.mixed_matrices.specs.LayeredMatrices.{LayeredMatrix}
use Rattle.part_checker.specs.declared.telling.PartsTold.{PartsTold}
use Rattle.part_rules.specs.Listed.{arc_in}
use Rattle.part_rules.specs.Tests.{AreFirstPlaces, TellsChains}

-- a layered matrix of the sizes and the symbols that the form prints
pub record IsPrintedBy (L : LayeredMatrix) (c : Contents) : Type 0 where
  pub q_rows : L.q_rows ≡ c.shape.q_rows
  pub t_rows : L.t_rows ≡ c.shape.t_rows
  pub columns : L.columns ≡ c.shape.columns
  pub symbols : (i j : ℕ) → i < c.shape.t_rows → j < c.shape.columns → pattern_of c.t i j ≡ L.t i j

-- each column stands in exactly one part, and parts tells in which, counted from 1
pub record TellsParts (c : Contents) (parts : List ℕ) : Type 0 where
  pub once : StandsOnce c.shape.columns (column_lists c)
  pub count : length parts ≡ c.shape.columns
  pub part : (x : ℕ) → x < c.shape.columns → slice_index parts x ≡ place_of (column_lists c) x + 1

-- what is told is that of the form: its arcs, the items of its lower lists, the chains of these, and the first column
-- of each block
pub record AreTold (p : ℕ) (c : Contents) (parts : List ℕ) (t : PartsTold) : Type 0 where
  pub arcs : AreArcsOf p c t.arcs.arcs.items t.arcs.free.items t.arcs.ends.items
  pub items : AreLowerItems (length c.blocks) t.lower.items
  pub lower : (l k : ℕ) → arc_in t.lower.items l k ≡ lower_of c l k
  pub rows : t.below.rows ≡ length c.blocks
  pub size : t.below.size ≡ length c.blocks
  pub chains : TellsChains (arc_in t.lower.items) (length c.blocks) (bit_in t.below)
  pub head_count : vec_len t.heads ≡ length c.blocks
  pub heads : AreFirstPlaces (length parts) (slice_index parts) (length c.blocks) (slice_index t.heads.items)
