use Rattle.std.proofs.Common.{◌≡◌, ◌<◌, ℕ, [], length, slice_index_or}
use Rattle.std.specs.Global.{Vec}
use Rattle.ccf_builder.proofs.part_lists.PartLists.open.Given as goal

abbrev pub invariant-loop-block : goal.invariant-loop-block
invariant-loop-block l = record {
  count : length l.lists.items ≡ l._block;
  none : (k : ℕ) (d : Vec ℕ) → k < length l.lists.items → (slice_index_or l.lists.items k d).items ≡ [];
}
