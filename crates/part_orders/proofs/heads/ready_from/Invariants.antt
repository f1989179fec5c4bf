use Rattle.std.proofs.Common.{◌≡◌, vec_len, slice_index}
use Rattle.part_orders.proofs.HeadLaws.{IsReadyBy}
use Rattle.part_orders.proofs.heads.ready_from.Given as goal

abbrev pub invariant-loop-i : goal.invariant-loop-i
invariant-loop-i l = record {
  count : vec_len l.ready ≡ l.blocks;
  ready : IsReadyBy l.lower l.blocks (slice_index l.ready.items) l.i;
}
