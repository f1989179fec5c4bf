use Rattle.std.proofs.Common.{◌≡◌, ℕ, false, vec_len}
use Rattle.part_search.specs.Neighbours.{listed}
use Rattle.part_search.proofs.neighbours.Neighbours.open.Given as goal

abbrev pub invariant-loop-place : goal.invariant-loop-place
invariant-loop-place l = record {
  count : vec_len l.lists ≡ l._place;
  none : (x y : ℕ) → listed l.lists.items x y ≡ false;
}
