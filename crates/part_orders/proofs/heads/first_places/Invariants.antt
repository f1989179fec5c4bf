use Rattle.std.proofs.Common.{◌≡◌, ◌≤◌, length, vec_len, slice_index}
use Rattle.part_orders.proofs.HeadLaws.{AreFirstFrom}
use Rattle.part_orders.proofs.heads.first_places.Given as goal

abbrev pub invariant-loop-place : goal.invariant-loop-place
invariant-loop-place l = record {
  count : vec_len l.heads ≡ l.blocks;
  within : l.place ≤ length l.parts;
  first : AreFirstFrom (length l.parts) (slice_index l.parts) l.blocks (slice_index l.heads.items) l.place;
}

abbrev pub decreases-loop-place : goal.decreases-loop-place
decreases-loop-place l = l.place
