use Rattle.std.proofs.Common.{◌≡◌, ℕ, ◌<◌, false, vec_len, slice_index, slice_index_or}
use Rattle.exchange_graph.proofs.scan.Scan.open.Given as goal

abbrev pub invariant-loop-place : goal.invariant-loop-place
invariant-loop-place l = record {
  order : vec_len l.order ≡ l.place;
  position : vec_len l.position ≡ l.place;
  reached : vec_len l.reached ≡ l.place;
  depth : vec_len l.depth ≡ l.place;
  before : vec_len l.before ≡ l.place;
  walk : vec_len l.walk ≡ l.place;
  same_order : (y : ℕ) → y < l.place → slice_index l.order.items y ≡ y;
  same_position : (y : ℕ) → y < l.place → slice_index l.position.items y ≡ y;
  same_before : (y : ℕ) → y < l.place → slice_index l.before.items y ≡ y;
  none_reached : (y : ℕ) → y < l.place → slice_index_or l.reached.items y false ≡ false;
}
