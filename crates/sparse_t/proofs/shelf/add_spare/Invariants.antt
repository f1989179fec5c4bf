use Rattle.std.proofs.Common.{◌≡◌, ◌+◌, ◌≤◌, ℕ, vec_len, vec_capacity}
use Rattle.sparse_t.specs.Shelves.{AreWide}
use Rattle.sparse_t.proofs.shelf.add_spare.Given as goal

abbrev pub invariant-loop-list : goal.invariant-loop-list
invariant-loop-list l = record {
  room : vec_capacity l.fn.spare ≤ vec_capacity l.spare;
  kept : (w : ℕ) → w ≤ l.width → AreWide w l.fn.spare.items → AreWide w l.spare.items;
  count : vec_len l.fn.spare + l._list ≡ vec_len l.spare;
}
