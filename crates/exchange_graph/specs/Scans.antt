-- What the arrays of a search mean.
use Rattle.std.specs.Prelude.{ℕ, ◌^◌, ◌<◌, ◌≤◌, ◌≡◌, false, vec_len, slice_index}
use Rattle.search_laws.specs.Searches.{SearchState}
use Rattle.exchange_graph.specs.Marks.{members_of}
use Rattle.exchange_graph.specs.declared.scan.Scan.{Scan}

-- how many places there are
abbrev pub scan_places : Scan → ℕ
scan_places s = vec_len s.order

-- where in the order a place stands
abbrev pub position_of : Scan → ℕ → ℕ
position_of s y = slice_index s.position.items y

abbrev pub walk_of : Scan → ℕ → ℕ
walk_of s i = slice_index s.walk.items i

abbrev pub scan_state : Scan → SearchState
scan_state s = record {
  order = λ i. slice_index s.order.items i;
  reached = members_of s.reached.items;
  depth = λ y. slice_index s.depth.items y;
  before = λ y. slice_index s.before.items y;
}

-- each array has an item for each place
pub record IsSized (s : Scan) : Type 0 where
  pub position : vec_len s.position ≡ scan_places s
  pub reached : vec_len s.reached ≡ scan_places s
  pub depth : vec_len s.depth ≡ scan_places s
  pub before : vec_len s.before ≡ scan_places s
  pub walk : vec_len s.walk ≡ scan_places s

-- `order` and `position` are each other's inverse, no place behind the `filled` first ones is reached, `before` holds
-- places, and the count of looks has 64 bits
pub record IsScan (s : Scan) : Type 0 where
  pub sized : IsSized s
  pub order_below : (i : ℕ) → i < scan_places s → slice_index s.order.items i < scan_places s
  pub position_below : (y : ℕ) → y < scan_places s → position_of s y < scan_places s
  pub position_order : (i : ℕ) → i < scan_places s → position_of s (slice_index s.order.items i) ≡ i
  pub order_position : (y : ℕ) → y < scan_places s → slice_index s.order.items (position_of s y) ≡ y
  pub filled_le : s.filled ≤ scan_places s
  pub behind : (y : ℕ) → y < scan_places s → s.filled ≤ position_of s y → members_of s.reached.items y ≡ false
  pub before_below : (y : ℕ) → y < scan_places s → slice_index s.before.items y < scan_places s
  pub count_fits : s.all_looks < 2 ^ 64

-- the walk that was found last, how many looks its search made, and the number of places are as before
pub record KeepsWalk (old now : Scan) : Type 0 where
  pub walk : now.walk ≡ old.walk
  pub looks : now.looks ≡ old.looks
  pub places : scan_places now ≡ scan_places old
